use Rattle.std.proofs.Common.{◌∙◌, ⊎_elim, inl, inr, Ok, Err, refl, sym, subst}
use Rattle.stores.proofs.Damage.{passes_none, refused_some}
use Rattle.image_care.specs.Looked.{Looks}
use Rattle.image_care.specs.declared.view.Listing.TheVariants.{Pages}
use Rattle.image_care.specs.declared.view.View.{View}
use Rattle.image_care.proofs.looking.look_by.Goals as goal

pub returns-in-Ok-find_by_pages : goal.returns-in-Ok-find_by_pages
returns-in-Ok-find_by_pages g c =
    let D = g.D.SectorDevice in
    let n = c.args.size.blocks.number in
    let image = (D.disk c.args.device.now).content in
    let r = c.in-Ok-find_by_pages.ensures in
    let view : View = record { blocks = c.args.size.blocks; listing = Pages c.named.result } in
    record {
      looks = subst (λ l. Looks D l n c.args.device.now c.find-in-Pages.new.device (Ok view)) (sym c.in-Pages.is) (record {
        count = refl;
        by = refl;
        listing = λ keeps. (r.gate keeps ∙ sym c.named.ensures.is_open, r.named keeps ∙ sym c.named.ensures.listing);
        meaning = λ keeps.
            let passes = r.exact keeps in
            record { label = record { many = c.args.size.blocks.many; few = c.args.size.blocks.few; label = passes.good }; whole = passes.whole };
        exact = λ keeps. passes_none n image (r.exact keeps);
        tells = record {
          sized = r.tells.sized;
          device = r.tells.device;
          refused = r.tells.refused;
          well = r.tells.well;
          content = r.tells.content;
          unwritten = r.tells.unwritten;
        };
        only_read = r.only_read;
        reads = λ keeps. r.reads;
        few = λ is. r.reads;
      });
    }

pub returns-in-Err-find_by_pages : goal.returns-in-Err-find_by_pages
returns-in-Err-find_by_pages g c =
    let D = g.D.SectorDevice in
    let n = c.args.size.blocks.number in
    let image = (D.disk c.args.device.now).content in
    let r = c.in-Err-find_by_pages.ensures in
    record {
      looks = subst (λ l. Looks D l n c.args.device.now c.find-in-Pages.new.device (Err c.in-Err-find_by_pages.fault)) (sym c.in-Pages.is) (record {
        count = tt;
        by = tt;
        listing = λ keeps. tt;
        meaning = λ keeps. tt;
        exact = λ keeps. ⊎_elim (λ failed. inl failed) (λ refused. inr (refused_some n image c.in-Err-find_by_pages.fault refused)) (r.exact keeps);
        tells = record {
          sized = r.tells.sized;
          device = r.tells.device;
          refused = r.tells.refused;
          well = r.tells.well;
          content = r.tells.content;
          unwritten = r.tells.unwritten;
        };
        only_read = r.only_read;
        reads = λ keeps. r.reads;
        few = λ is. r.reads;
      });
    }

use Rattle.std.proofs.Common.{◌≡◌, ◌∙◌, ◌*◌, true, false, ap, subst, sym}
use Rattle.std.specs.Prelude.{IfErr, IfOk}
use Rattle.sector_disk.specs.declared.host_files.FileFault.TheVariants.{InUse}
use Rattle.shadow.specs.Label.{is_size}
use Rattle.stores.proofs.Results.{if_err}
use Rattle.image_care.specs.Seen.{IsOneOf, NoneIsWhole}
use Rattle.image_care.proofs.whole_copies.read_whole_file.Goals as goal

pub returns-in-Some-clause-given : goal.returns-in-Some-clause-given
returns-in-Some-clause-given g c =
    subst (λ n. IfOk c.read_whole.result (λ bytes. IsOneOf 64 (g.R.Readings.gives c.args.readings.now (512 * n)) bytes.items))
    c.sectors_in-sectors.ensures c.read_whole.ensures.given

pub returns-in-Some-clause-in_use : goal.returns-in-Some-clause-in_use
returns-in-Some-clause-in_use g c =
    if_err c.read_whole.result (λ fault none is sized. none is)
    (subst (λ n. IfErr c.read_whole.result (λ fault. fault ≡ InUse → NoneIsWhole n 64 (g.R.Readings.gives c.args.readings.now (512 * n))))
    c.sectors_in-sectors.ensures c.read_whole.ensures.in_use)

pub returns-in-None-clause-in_use : goal.returns-in-None-clause-in_use
returns-in-None-clause-in_use g c = λ is sized.
    absurd (let no : false ≡ true = sym c.in-None.ensures.none ∙ ap is_size c.sectors_in-sectors.ensures ∙ sized in cc)

pub returns-in-Some-clause-no_image : goal.returns-in-Some-clause-no_image
returns-in-Some-clause-no_image g c = λ other.
    absurd (let no : true ≡ false = sym c.in-Some.ensures.size ∙ ap is_size c.sectors_in-sectors.ensures ∙ other in cc)

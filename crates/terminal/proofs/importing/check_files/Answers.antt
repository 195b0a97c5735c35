use Rattle.std.proofs.Common.{◌≡◌, ◌∙◌, ◌+◌, ◌-◌, ◌<◌, ◌≤◌, ℕ, List, ap, length, refl, subst}
use Rattle.shadow.specs.Upgraded.{known_blocks}
use Rattle.terminal.specs.Findings.{AreSound, blocks_for, said_all}
use Rattle.terminal.proofs.importing.check_files.Goals as goal

pub returns-clause-looked : goal.returns-clause-looked
returns-clause-looked g c =
    let are : c.in-Some.blocks ≡ known_blocks (g.D.SectorDevice.sector_count c.args.device.now) = c.in-Some.ensures.count ∙ ap known_blocks c.sectors.ensures in
    let read = c.in-Ok.ensures.said in
    record {
      same = refl;
      files = read.0;
      each = read.1;
      sound = subst (λ (n : ℕ). AreSound c.args.form (n - c.args.first) read.0) are read.2;
      below = subst (λ (n : ℕ). c.args.first < n) are c.in-Ok.ensures.below;
      there = subst (λ (n : ℕ). c.args.first + blocks_for (length (said_all c.args.form read.0)) ≤ n) are
          (subst (λ (l : List ℕ). c.args.first + blocks_for (length l) ≤ c.in-Some.blocks) read.3 c.in-Ok.ensures.there);
    }

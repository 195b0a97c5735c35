use Rattle.std.proofs.Common.{◌<◌, ◌∙◌, sym, subst}
use Rattle.sector_disk.specs.Spans.{sector_is}
use Rattle.sector_disk.proofs.FileCalls.{on_ok}
use Rattle.sector_disk.proofs.sector_file.read_sector.Goals as goal

pub returns-clause-bytes : goal.returns-clause-bytes
returns-clause-bytes g c keeps =
    on_ok c.read_whole.result (c.read_whole.ensures.gives keeps)
    (λ gives. sector_is (g.H.HostFile.bytes c.args.file.now).content c.args.k c.read_whole.new.out (c.read_whole.auto.out ∙ c.told-out)
    (λ i below. gives i (subst (λ n. i < n) (sym c.told-out) below)))

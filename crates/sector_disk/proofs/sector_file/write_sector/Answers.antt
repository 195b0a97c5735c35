use Rattle.std.proofs.Common.{◌*◌, subst}
use Rattle.sector_disk.specs.FileBytes.{Spoils, Puts}
use Rattle.sector_disk.proofs.FileCalls.{on_ok, on_any, one_written, one_spoiled}
use Rattle.sector_disk.proofs.sector_file.write_sector.Goals as goal

pub returns-clause-ok : goal.returns-clause-ok
returns-clause-ok g c keeps =
    let f = g.H.HostFile.bytes c.args.file.now in
    let h = g.H.HostFile.bytes c.write_whole.new.file in
    on_ok c.write_whole.result (c.write_whole.ensures.puts keeps)
    (λ puts. one_written c.args.k f h c.args.bytes.now c.told-bytes
    (subst (λ n. Spoils (512 * c.args.k) n f h) c.told-bytes c.write_whole.ensures.spoils)
    (subst (λ n. Puts (512 * c.args.k) c.args.bytes.now n f h) c.told-bytes puts))

pub returns-clause-err : goal.returns-clause-err
returns-clause-err g c =
    let f = g.H.HostFile.bytes c.args.file.now in
    let h = g.H.HostFile.bytes c.write_whole.new.file in
    on_any c.write_whole.result (one_spoiled c.args.k f h (subst (λ n. Spoils (512 * c.args.k) n f h) c.told-bytes c.write_whole.ensures.spoils))

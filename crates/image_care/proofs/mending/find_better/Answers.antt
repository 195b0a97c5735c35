use Rattle.std.proofs.Common.{◌∙◌, sym}
use Rattle.image_care.specs.Through.{image_of}
use Rattle.image_care.proofs.Mendings.{better, kept}
use Rattle.image_care.proofs.mending.find_better.Goals as goal

pub returns-in-None-clause-kept : goal.returns-in-None-clause-kept
returns-in-None-clause-kept c = kept c.args.blocks (image_of c.args.bytes.now) c.find_other.result c.find_other.ensures.kept

pub returns-in-None-clause-better : goal.returns-in-None-clause-better
returns-in-None-clause-better c =
    let other = c.find_other.ensures in
    better c.args.blocks (image_of c.args.bytes.now) c.find_other.result (sym c.is_fit.ensures ∙ c.if-is_fit.false) other.other other.whole other.which

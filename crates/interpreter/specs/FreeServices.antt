-- Services that take no step: of these alone it is said that the measure of a round doesn't rise.
use Rattle.cell_machine.specs.declared.event.Op.{Op}
use Rattle.cell_machine.specs.declared.event.Op.TheVariants as op

-- P, where this takes no step
abbrev pub WhereFree : Op → Type 0 → Type 0
WhereFree (op.Does place) P = P
WhereFree _ P = Unit {0}

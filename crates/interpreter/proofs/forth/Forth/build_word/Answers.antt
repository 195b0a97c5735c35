use Rattle.std.proofs.Common.{◌≡◌, ◌+◌, ℕ, List, length, take, ap, sym, ◌∙◌, arith}
use Rattle.std.specs.Prelude.{min}
use Rattle.std.proofs.lemmas.Grind.{common_steps}
use Rattle.data_space.specs.Space.{with_bytes}
use Rattle.interpreter.specs.State.{with_run, pushing}
use Rattle.interpreter.specs.Text.{counted}
use Rattle.interpreter.specs.Representation.{core}
use Rattle.interpreter.proofs.Altering.{altered_as}
use Rattle.interpreter.proofs.Building.{built_parts, kept_length}
use Rattle.interpreter.proofs.forth.Forth.build_word.Goals as goal

pub returns-clause-alters : goal.returns-clause-alters
returns-clause-alters g c = λ levels x stands.
    let old = c.args.self.now in
    let here : ℕ = c.here-here.result in
    let kept : ℕ = c.min-kept.result in
    let word : List ℕ = take kept old.text in
    let within = (c.here-here.ensures.in_space c.requires.sound).most in
    let is : kept ≡ min c.args.count 255 = c.min-kept.ensures in
    let long : length word ≡ kept = kept_length old.text c.args.count kept is c.requires.whole in
    let wrote : c.set_bytes.new.self ≡ with_bytes c.set_byte.new.self (here + 1) word = grind (arith, common_steps, c.set_bytes.ensures.after, c.set_bytes.ensures.within, long, within, is) in
    let built = built_parts old.space c.set_byte.new.self c.set_bytes.new.self c.set_byte-2.new.self old.text here c.args.count kept c.set_byte.ensures.size c.set_bytes.ensures.size within is c.requires.whole
    c.set_byte.ensures.after wrote c.set_byte-2.ensures.after in
    let at : here ≡ x.here = c.here-here.ensures.here _ stands.rests.meant in
    altered_as (λ r. pushing x.here (record (core old) { space = with_bytes old.space x.here (counted (take c.args.count old.text)) }) (with_run r x)) old
    (λ r. ap (λ a. pushing a (record (core old) { space = with_bytes old.space a (counted (take c.args.count old.text)) }) (with_run r x)) (sym at)
    ∙ ap (λ s. pushing here (record (core old) { space = s }) (with_run r x)) (sym built))
    (omega arith) (c.push.ensures.alters levels x stands)

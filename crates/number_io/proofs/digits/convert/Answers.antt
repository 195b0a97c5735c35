use Rattle.std.proofs.Common.{◌≡◌, ◌∙◌, sym, ap, ◌+◌, ◌*◌, ◌%◌, ◌^◌, ◌∷◌, ℕ, List, length, drop, get_or, true, false, arith}
use Rattle.number_io.specs.Digits.{is_digit, digit, front_digits, converted}
use Rattle.number_io.proofs.Front.{front-more, front-stop, front-end, converted-more, converted-none, not-true}
use Rattle.number_io.proofs.digits.convert.Goals as goal

pub loop-count-preserved : goal.loop-count-preserved
loop-count-preserved c =
    let ch : ℕ = get_or c.args.text.now c.loop-count.count 0 in
    let rest : List ℕ = front_digits c.args.base (drop (c.loop-count.count + 1) c.args.text.now) in
    let is : is_digit c.args.base ch ≡ true = c.in-Some.ensures.value.0 in
    let f : front_digits c.args.base (drop c.loop-count.count c.args.text.now) ≡ ch ∷ rest =
    front-more c.args.base c.args.text.now c.loop-count.count (omega arith) is in
    let v : c.longer-value.result ≡ (c.loop-count.value * c.args.base + digit ch) % 2 ^ 32 =
    c.longer-value.ensures ∙ ap (λ k. (c.loop-count.value * c.args.base + k) % 2 ^ 32) c.in-Some.ensures.value.1 in
    record {
      within = omega arith;
      small = omega arith;
      value =
          ap (λ k. converted c.args.base k rest) v
          ∙ sym (converted-more c.args.base c.loop-count.value ch rest)
          ∙ ap (λ l. converted c.args.base c.loop-count.value l) (sym f)
          ∙ c.loop-count.invariant.value;
      count = omega (arith, ap length f);
    }

pub returns-after-loop-count-clause-value : goal.returns-after-loop-count-clause-value
returns-after-loop-count-clause-value c =
    sym (converted-none c.args.base c.loop-count.value (omega arith))
    ∙ ap (λ l. converted c.args.base c.loop-count.value l) (sym (front-end c.args.base c.args.text.now c.loop-count.count (omega arith)))
    ∙ c.loop-count.invariant.value

pub returns-in_default-clause-value : goal.returns-in_default-clause-value
returns-in_default-clause-value c =
    let not : is_digit c.args.base (get_or c.args.text.now c.loop-count.count 0) ≡ false = not-true _ c.in_default.ensures.value in
    sym (converted-none c.args.base c.loop-count.value (omega arith))
    ∙ ap (λ l. converted c.args.base c.loop-count.value l) (sym (front-stop c.args.base c.args.text.now c.loop-count.count (omega arith) not))
    ∙ c.loop-count.invariant.value

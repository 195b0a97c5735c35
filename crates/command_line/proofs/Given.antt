-- What the getters of a parse give is what the words say.
use Rattle.std.proofs.Common.{◌≡◌, ◌∙◌, ℕ, Bool, false, List, Option, Some, None, Result, Ok, Err, IfSome, ap, refl, sym, subst}
use Rattle.std.specs.Prelude.{IsErrAnd, MatchResult}
use Rattle.std.specs.Str.Parse.{ParsesBool, ParsesUnsigned}
use Rattle.std.specs.Prelude.{option_map, true, Box}
use Rattle.std.specs.Box.{box_value}
use Rattle.clap.specs.declared.parser.matches.ArgMatches.TheViews.{out-ArgMatches, out-SubCommand}
use Rattle.clap.specs.declared.parser.matches.SubCommand.{SubCommand}
use Rattle.clap.specs.Words.{ReadsOne, Row, Text, found_of, one_text, first_value, rows_of, subcommand_name_of, subcommand_rows, subcommand_rows_of}
use Rattle.command_line.specs.declared.orders.Order.{Order}
use Rattle.command_line.specs.declared.orders.Order.TheVariants.{Memory}
use Rattle.clap.specs.declared.parser.matches.ArgMatches.{ArgMatches}
use Rattle.clap.proofs.WalkLemmas.{first_value-rows, one_text-rows}
use Rattle.command_line.specs.Commands.{HasFlag, HasNumber, HasText, Orders}

pub number_given : {E : Type 0} (G : List ℕ → Result ℕ E → Type 0) (k : ℕ) (m : ArgMatches) (id : Text) (r : Option ℕ)
    → ((u : List ℕ) (x : Result ℕ E) → G u x → ParsesUnsigned k 10 u x)
    → (one_text (found_of m) id ≡ None → r ≡ None)
    → ((t : List ℕ) → one_text (found_of m) id ≡ Some t → ReadsOne G t r)
    → IfSome r (λ n. HasNumber (rows_of (found_of m)) id n)
number_given {E} G k m id r only none value = go (one_text (found_of m) id) refl r none value
  where
    go : (o : Option Text) → one_text (found_of m) id ≡ o → (r : Option ℕ)
        → (one_text (found_of m) id ≡ None → r ≡ None)
        → ((t : List ℕ) → one_text (found_of m) id ≡ Some t → ReadsOne G t r)
        → IfSome r (λ n. HasNumber (rows_of (found_of m)) id n)
    go o e None none value = tt
    go None e (Some v) none value = let bad : Some v ≡ None = none e in cc
    go (Some t) e (Some v) none value =
        let parsed = only t (Ok v) (value t e) in
        (t, sym (one_text-rows (found_of m) id) ∙ e, parsed.0.0, parsed.1)

-- the flag of a text that names it
flag_named : (E : Type 0) (m : ArgMatches) (id t : Text) (is_given : Bool) → one_text (found_of m) id ≡ Some t → ParsesBool {E = E} t (Ok is_given)
    → HasFlag (rows_of (found_of m)) id is_given
flag_named E m id t true e named = sym (one_text-rows (found_of m) id) ∙ e ∙ ap (λ (t : Text). Some t) named
flag_named E m id t false e named = sym (one_text-rows (found_of m) id) ∙ e ∙ ap (λ (t : Text). Some t) named

pub flag_given : {E : Type 0} (G : List ℕ → Result Bool E → Type 0) (m : ArgMatches) (id : Text) (r : Option Bool)
    → ((u : List ℕ) (x : Result Bool E) → G u x → ParsesBool u x)
    → (one_text (found_of m) id ≡ None → r ≡ None)
    → ((t : List ℕ) → one_text (found_of m) id ≡ Some t → ReadsOne G t r)
    → IfSome r (λ is_given. HasFlag (rows_of (found_of m)) id is_given)
flag_given {E} G m id r only none value = go (one_text (found_of m) id) refl r none value
  where
    go : (o : Option Text) → one_text (found_of m) id ≡ o → (r : Option Bool)
        → (one_text (found_of m) id ≡ None → r ≡ None)
        → ((t : List ℕ) → one_text (found_of m) id ≡ Some t → ReadsOne G t r)
        → IfSome r (λ is_given. HasFlag (rows_of (found_of m)) id is_given)
    go o e None none value = tt
    go None e (Some v) none value = let bad : Some v ≡ None = none e in cc
    go (Some t) e (Some v) none value = flag_named E m id t v e (only t (Ok v) (value t e))

pub text_given : (m : ArgMatches) (id text : Text) → Some text ≡ first_value (found_of m) id → HasText (rows_of (found_of m)) id text
text_given m id text given = sym (given ∙ first_value-rows (found_of m) id)

-- A parse that met no command gives no order, and one that met a command the order of that command.
none_mapped : {A B : Type 0} (f : A → B) (o : Option A) → option_map f o ≡ None → o ≡ None
none_mapped f None is = refl
none_mapped f (Some x) is = cc

pair_mapped : (o : Option (Text × List Row)) (name : Text) (rows : List Row) → option_map (λ p. p.0) o ≡ Some name → option_map (λ p. p.1) o ≡ Some rows
    → o ≡ Some (name, rows)
pair_mapped None name rows is at = cc
pair_mapped (Some p) name rows is at =
    let one : p.0 ≡ name = cc in
    let two : p.1 ≡ rows = cc in
    λ i. Some (one i, two i)

pub none_given : (m : ArgMatches) → None ≡ option_map (λ (p : Text × List Row). p.1) (subcommand_rows_of m) → Orders (subcommand_rows_of m) Memory
none_given m is = subst (λ o. Orders o Memory) (sym (none_mapped (λ p. p.1) (subcommand_rows_of m) (sym is))) tt

pub order_given : (m : ArgMatches) (name : Text) (rows : List Row) (order : Order) → option_map (λ (p : Text × List Row). p.0) (subcommand_rows_of m) ≡ Some name
    → option_map (λ (p : Text × List Row). p.1) (subcommand_rows_of m) ≡ Some rows → Orders (Some (name, rows)) order → Orders (subcommand_rows_of m) order
order_given m name rows order is at orders = subst (λ o. Orders o order) (sym (pair_mapped (subcommand_rows_of m) name rows is at)) orders

-- the name of the command
pub name_met : (m : ArgMatches) (name : Text) → Some name ≡ subcommand_name_of m → option_map (λ (p : Text × List Row). p.0) (subcommand_rows_of m) ≡ Some name
name_met m name is = go ((out-ArgMatches m).subcommand) is
  where
    go : {Z : Type 0} (o : Option (Box SubCommand Z)) → Some name ≡ option_map (λ b. (out-SubCommand (box_value b)).name.now) o
        → option_map (λ (p : Text × List Row). p.0) (subcommand_rows o) ≡ Some name
    go None is = cc
    go (Some b) is = sym is

-- an error that is handed on
pub refused_up : {T E : Type 0} (r : Result T E) (e : E) (P : T → Type 0) (Q : E → Type 0) → IsErrAnd r (λ y. y ≡ e) → Q e → MatchResult r P Q
refused_up (Ok x) e P Q is q = absurd is
refused_up (Err y) e P Q is q = subst Q (sym is) q

-- The two stacks as lists, the top first: cells, and the entries of the return stack.
use Rattle.std.specs.Prelude.{ℕ, suc, Bool, true, false, ◌+◌, ◌&&◌, nat_lt, List, [], ◌∷◌, ◌++◌, take, drop}
unfoldable pub use Rattle.stacks.specs.Places.{stack_in}
use Rattle.stacks.specs.declared.return_stack.Entry.{Entry}
use Rattle.stacks.specs.declared.return_stack.Entry.TheVariants.{Call as CallOf, Value as ValueOf, Loop as LoopOf, Load as LoadOf}

-- the cell u places below the top, moved to the top
abbrev pub rolled : ℕ → List ℕ → List ℕ
rolled u stack = take 1 (drop u stack) ++ (take u stack ++ drop (suc u) stack)

-- how many units an entry takes
abbrev pub entry_units : Entry → ℕ
entry_units (CallOf place) = 1
entry_units (ValueOf cell) = 1
entry_units (LoopOf limit index) = 3
entry_units (LoadOf block to_in) = 2

-- how many units all entries take
abbrev pub units : List Entry → ℕ
units [] = 0
units (entry ∷ entries) = entry_units entry + units entries

-- the top, or a load where there is none
abbrev pub top_or_load : List Entry → Entry
top_or_load [] = LoadOf 0 0
top_or_load (entry ∷ entries) = entry

-- the top is a loop
abbrev pub has_loop : List Entry → Bool
has_loop (LoopOf limit index ∷ entries) = true
has_loop _ = false

-- the top is a call, and an entry that is no load lies below it
abbrev pub is_inner_call : List Entry → Bool
is_inner_call (CallOf back ∷ []) = false
is_inner_call (CallOf back ∷ LoadOf block to_in ∷ entries) = false
is_inner_call (CallOf back ∷ entry ∷ entries) = true
is_inner_call _ = false

-- the loop on top with this index
abbrev pub with_index : ℕ → List Entry → List Entry
with_index index (LoopOf limit old ∷ entries) = LoopOf limit index ∷ entries
with_index index entries = entries

-- From this place outwards, where each call goes on in the body around it: all lie below the limit. The place behind the
-- last call belongs to no body.
abbrev pub calls_below : (limit place : ℕ) → List Entry → Bool
calls_below limit place [] = true
calls_below limit place (CallOf back ∷ entries) = nat_lt place limit && calls_below limit back entries
calls_below limit place (ValueOf cell ∷ entries) = calls_below limit place entries
calls_below limit place (LoopOf bound index ∷ entries) = calls_below limit place entries
calls_below limit place (LoadOf block to_in ∷ entries) = calls_below limit place entries

-- how many loads there are
abbrev pub loads : List Entry → ℕ
loads [] = 0
loads (CallOf back ∷ entries) = loads entries
loads (ValueOf cell ∷ entries) = loads entries
loads (LoopOf limit index ∷ entries) = loads entries
loads (LoadOf block to_in ∷ entries) = suc (loads entries)

-- The level of the innermost file.
use Rattle.std.proofs.Common.{◌≡◌, ℕ, ◌<◌, List, [], ◌∷◌, length, Option, refl, sym, ap, ◌∙◌, subst, arith}
use Rattle.tex_defs.specs.declared.Sizes.{Sizes}
use Rattle.line_lexer.specs.declared.Line.{Line}
use Rattle.world_io.specs.declared.traits.InId.{InId}
use Rattle.token_lists.specs.declared.Build.{Build}
use Rattle.token_lists.specs.Table.{Entry}
use Rattle.input_stack.specs.Puts.{Put}
use Rattle.input_stack.specs.Pending as stack
use Rattle.input_stack.specs.Pending.{Pending, Below, sources_at, Ends, EndsIn}
use Rattle.input_stack.specs.View.{pending, pending_in, innermost, IsSourceOnTop}
use Rattle.input_stack.specs.WholeLevel.{WholeLevel}
use Rattle.input_stack.specs.WholeLevel as level
use Rattle.input_stack.specs.declared.stack.InputStack.{InputStack}
use Rattle.input_stack.specs.Pulls.{IsInBuffer}
use Rattle.input_state.specs.HeldLists.{HeldLists, Covered, AreInBuffer, at_line, over_held}
use Rattle.input_state.specs.HeldViews.{Named, fronts, covers, lists_of}

not_empty : {A : Type 0} (x : A) (xs : List A) → x ∷ xs ≡ [] → ⊥
not_empty x xs is = cc

top_is : (table : List (Option Entry)) (ls : List WholeLevel) → fronts table (pending_in table ls).puts ≡ [] → 0 < length (covers table (pending_in table ls).sources) → IsSourceOnTop ls
top_is table [] none some = absurd (omega (arith, some))
top_is table (level.List r ∷ ls) none some = not_empty _ _ none
top_is table (level.Call c ∷ ls) none some = not_empty _ _ none
top_is table (level.Source s ∷ ls) none some = tt

line_there : (table : List (Option Entry)) (line : Line) (bs : List Below) → covers table (sources_at line bs) ≡ at_line line (covers table bs)
line_there table line [] = refl
line_there table line (b ∷ bs) = refl

-- the innermost line is in the buffer
pub in_buffer : (table : List (Option Entry)) (bs : List Below) (n : ℕ) → AreInBuffer (covers table bs) n → IsInBuffer bs n
in_buffer table [] n inside = tt
in_buffer table (b ∷ bs) n inside = (inside.0, inside.1)

module _ (table : List (Option Entry)) (making : Option Build) (gathered : List Build) (m : Named) (sizes : Sizes) where
  -- no list is in front
  pub none_in_front : (s : InputStack) (v : HeldLists) → lists_of table (pending table s) making gathered m sizes ≡ v → v.puts ≡ [] → (pending table s).puts ≡ []
  none_in_front s v is front = no_puts (pending table s).puts (ap (λ (w : HeldLists). w.puts) is ∙ front)
    where
      no_puts : (ps : List Put) → fronts table ps ≡ [] → ps ≡ []
      no_puts [] e = refl
      no_puts (p ∷ ps) e = absurd (not_empty _ _ e)

  -- it is on top
  pub file_on_top : (s : InputStack) (v : HeldLists) → lists_of table (pending table s) making gathered m sizes ≡ v → v.puts ≡ [] → 0 < length v.below → IsSourceOnTop (innermost s)
  file_on_top s v is front some = top_is table (innermost s) (ap (λ (w : HeldLists). w.puts) is ∙ front) (subst (λ (w : HeldLists). 0 < length w.below) (sym is) some)

  -- it goes on at a line
  pub line_view : (p q : Pending) (line : Line) (v : HeldLists) → lists_of table p making gathered m sizes ≡ v → q ≡ stack.at_line line p → lists_of table q making gathered m sizes ≡ record v { below = at_line line v.below }
  line_view p q line v is at =
      ap (λ (r : Pending). lists_of table r making gathered m sizes) at
      ∙ ap (λ (bs : List Covered). record (lists_of table p making gathered m sizes) { below = bs }) (line_there table line p.sources)
      ∙ ap (λ (w : HeldLists). record w { below = at_line line w.below }) is

  gone_view : (ps : List Put) (bs : List Below) (q : Pending) (id : Option InId) (v : HeldLists) → EndsIn bs q id → lists_of table (record { puts = ps; sources = bs }) making gathered m sizes ≡ v → lists_of table q making gathered m sizes ≡ over_held v
  gone_view ps [] q id v ends is = absurd ends
  gone_view ps (b ∷ bs) q id v ends is = ap (λ (r : Pending). lists_of table r making gathered m sizes) ends.1 ∙ ap over_held is

  -- it goes
  pub end_view : (p q : Pending) (id : Option InId) (v : HeldLists) → Ends p q id → lists_of table p making gathered m sizes ≡ v → lists_of table q making gathered m sizes ≡ over_held v
  end_view p q id v ends is = gone_view p.puts p.sources q id v ends is

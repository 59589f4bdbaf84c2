-- The plain lists behind a change.
use Rattle.std.proofs.Common.{◌≡◌, ◌+◌, arith, List, [], ◌∷◌, ◌++◌, map, reverse, Option, None, Some, refl, ap, ap₂, sym, subst, ◌∙◌}
use Rattle.std.specs.Prelude.{option_to_list}
use Rattle.std.proofs.lemmas.List.{reverse-append}
use Rattle.tex_defs.specs.declared.Token.{Token}
use Rattle.tex_defs.specs.declared.Sizes.{Sizes}
use Rattle.plain_tokens.specs.Puts as plain
use Rattle.token_lists.specs.declared.Build.{Build}
use Rattle.token_lists.specs.Table.{Entry, tokens_at}
use Rattle.token_lists.specs.Ids.{build_id}
use Rattle.equivalents.specs.Holding.{lists_held}
use Rattle.eqtb_save.specs.Table.{Table}
use Rattle.input_stack.specs.Pending.{Pending}
use Rattle.input_stack.specs.View.{pending, held}
use Rattle.input_stack.specs.declared.stack.InputStack.{InputStack}
use Rattle.input_state.specs.HeldLists.{HeldLists, Covered}
use Rattle.input_state.specs.Macros.{KeepsLists}
use Rattle.input_state.specs.HeldViews.{Named, names_hold, call_holds, calling_of, fronts, text, made_text, covers, texts, lists_of, all_builds}
use Rattle.input_state.specs.Callings.{Calling}
use Rattle.input_state.proofs.Sharing.{Changed, Moved, stay_less, keeps_lists}
use Rattle.input_state.proofs.CallStays.{calling_stays}
use Rattle.input_state.proofs.Sources.{all_fronts}

abbrev pub held_lists : List plain.Put → Option (List Token) → Calling → List (List Token) → List Covered → Table → Sizes → List (List Token) → HeldLists
held_lists puts making call gathered below m sizes lists = record { puts = puts; making = making; call = call; builds = gathered; below = below; sizes = sizes; groups = m.groups; closing = m.closing; ending = m.ending; lists = lists }

same_lists : (p q : List plain.Put) (a b : Option (List Token)) (c d : Calling) (g k : List (List Token)) (l r : List Covered) (m : Table) (sizes : Sizes) (lists : List (List Token)) → p ≡ q → a ≡ b → c ≡ d → g ≡ k → l ≡ r → held_lists p a c g l m sizes lists ≡ held_lists q b d k r m sizes lists
same_lists p q a b c d g k l r m sizes lists e f j h i = rw (e, f, j, h, i) refl

-- the list that is made, before others
made_same : (old new : List (Option Entry)) (making : Option Build) → map (text new) (option_to_list making) ≡ map (text old) (option_to_list making) → made_text new making ≡ made_text old making
made_same old new None e = refl
made_same old new (Some b) e = cc

both_same : (old new : List (Option Entry)) (making : Option Build) (bs : List Build) → map (text new) (option_to_list making ++ bs) ≡ map (text old) (option_to_list making ++ bs) → (made_text new making ≡ made_text old making) × (map (text new) bs ≡ map (text old) bs)
both_same old new None bs e = (refl, e)
both_same old new (Some b) bs e = (cc, cc)

pub reverse_push : (items rest : List Build) (b : Build) → items ≡ rest ++ b ∷ [] → reverse items ≡ b ∷ reverse rest
reverse_push items rest b is = ap reverse is ∙ reverse-append rest (b ∷ [])

module _ (old new : List (Option Entry)) (stack : InputStack) (m : Named) (sizes : Sizes) where
  puts_now : (xs zs ys : List Build) → Changed old new stack m xs zs ys → fronts new (pending new stack).puts ≡ fronts old (pending old stack).puts
  puts_now xs zs ys c = ap (λ (p : Pending). fronts new p.puts) c.still ∙ c.in_front

  below_now : (xs zs ys : List Build) → Changed old new stack m xs zs ys → covers new (pending new stack).sources ≡ covers old (pending old stack).sources
  below_now xs zs ys c = ap (λ (p : Pending). covers new p.sources) c.still ∙ c.beneath

  call_now : (xs zs ys : List Build) → Changed old new stack m xs zs ys → calling_of new m.call ≡ calling_of old m.call
  call_now xs zs ys c = calling_stays old new m.call (stay_less old new (λ h. held stack h + names_hold m h) (call_holds m.call) (λ h. omega arith) c.stays)

  -- the innermost list that is gathered is this one
  pub first_view : (making : Option Build) (items rest : List Build) (b : Build) (ts : List Token) → Changed old new stack m (option_to_list making) (b ∷ []) (reverse rest) → items ≡ rest ++ b ∷ [] → text new b ≡ ts →
      lists_of new (pending new stack) making items m sizes ≡ held_lists (fronts old (pending old stack).puts) (made_text old making) (calling_of old m.call) (ts ∷ map (text old) (reverse rest)) (covers old (pending old stack).sources) m.table sizes (texts new)
  first_view making items rest b ts c is tokens =
      same_lists _ _ _ _ _ _ _ _ _ _ m.table sizes (texts new) (puts_now (option_to_list making) (b ∷ []) (reverse rest) c) (made_same old new making c.before) (call_now (option_to_list making) (b ∷ []) (reverse rest) c)
      (ap (map (text new)) (reverse_push items rest b is) ∙ ap₂ (λ (us : List Token) (vs : List (List Token)). us ∷ vs) tokens c.behind)
      (below_now (option_to_list making) (b ∷ []) (reverse rest) c)

  -- another list of the same tokens stands for the innermost one
  pub same_first : (making : Option Build) (items others rest : List Build) (a b : Build) (v : HeldLists) → new ≡ old → items ≡ rest ++ a ∷ [] → others ≡ rest ++ b ∷ [] → build_id b ≡ build_id a → lists_of old (pending old stack) making items m sizes ≡ v → lists_of new (pending new stack) making others m sizes ≡ v
  same_first making items others rest a b v still was now same is =
      let first : text old b ≡ text old a = ap (tokens_at old) same in
      let all : map (text old) (reverse others) ≡ map (text old) (reverse items) =
      ap (map (text old)) (reverse_push others rest b now) ∙ ap (λ (ts : List Token). ts ∷ map (text old) (reverse rest)) first ∙ sym (ap (map (text old)) (reverse_push items rest a was)) in
      ap (λ (table : List (Option Entry)). lists_of table (pending table stack) making others m sizes) still
      ∙ ap (λ (ts : List (List Token)). held_lists (fronts old (pending old stack).puts) (made_text old making) (calling_of old m.call) ts (covers old (pending old stack).sources) m.table sizes (texts old)) all
      ∙ is

  -- it goes
  pub rest_view : (making : Option Build) (rest : List Build) → Changed old new stack m (option_to_list making) [] (reverse rest) →
      lists_of new (pending new stack) making rest m sizes ≡ held_lists (fronts old (pending old stack).puts) (made_text old making) (calling_of old m.call) (map (text old) (reverse rest)) (covers old (pending old stack).sources) m.table sizes (texts new)
  rest_view making rest c =
      same_lists _ _ _ _ _ _ _ _ _ _ m.table sizes (texts new) (puts_now (option_to_list making) [] (reverse rest) c) (made_same old new making c.before) (call_now (option_to_list making) [] (reverse rest) c) c.behind (below_now (option_to_list making) [] (reverse rest) c)

  -- the list that is made is this one
  pub made_view : (gathered : List Build) (b : Build) (ts : List Token) → Changed old new stack m [] (b ∷ []) (reverse gathered) → text new b ≡ ts →
      lists_of new (pending new stack) (Some b) gathered m sizes ≡ held_lists (fronts old (pending old stack).puts) (Some ts) (calling_of old m.call) (map (text old) (reverse gathered)) (covers old (pending old stack).sources) m.table sizes (texts new)
  made_view gathered b ts c tokens =
      same_lists _ _ _ _ _ _ _ _ _ _ m.table sizes (texts new) (puts_now [] (b ∷ []) (reverse gathered) c) (ap (λ (us : List Token). Some us) tokens) (call_now [] (b ∷ []) (reverse gathered) c) c.behind (below_now [] (b ∷ []) (reverse gathered) c)

  -- it goes
  pub none_view : (gathered : List Build) → Changed old new stack m [] [] (reverse gathered) →
      lists_of new (pending new stack) None gathered m sizes ≡ held_lists (fronts old (pending old stack).puts) None (calling_of old m.call) (map (text old) (reverse gathered)) (covers old (pending old stack).sources) m.table sizes (texts new)
  none_view gathered c =
      same_lists _ _ _ _ _ _ _ _ _ _ m.table sizes (texts new) (puts_now [] [] (reverse gathered) c) refl (call_now [] [] (reverse gathered) c) c.behind (below_now [] [] (reverse gathered) c)

  -- each macro that is held keeps its tokens
  pub macros_view : (making : Option Build) (gathered : List Build) (xs zs ys : List Build) (v : HeldLists) → Changed old new stack m xs zs ys → lists_of old (pending old stack) making gathered m sizes ≡ v → KeepsLists (lists_held m.table.groups) (all_fronts new (pending new stack)) v.lists (texts new)
  macros_view making gathered xs zs ys v c is =
      let now : KeepsLists (lists_held m.table.groups) (all_fronts new (pending old stack)) (texts old) (texts new) = keeps_lists old new old new stack m.table (λ h some. c.stays.tokens h (omega (arith, some))) in
      let there : KeepsLists (lists_held m.table.groups) (all_fronts new (pending new stack)) (texts old) (texts new) = subst (λ (p : Pending). KeepsLists (lists_held m.table.groups) (all_fronts new p) (texts old) (texts new)) (sym c.still) now in
      subst (λ (w : HeldLists). KeepsLists (lists_held m.table.groups) (all_fronts new (pending new stack)) w.lists (texts new)) is there

-- the builds' texts are the old ones
pub same_held : (old new : List (Option Entry)) (making : Option Build) (gathered : List Build) (p q : List plain.Put) (c : Calling) (k l : List Covered) (m : Table) (sizes : Sizes) (lists : List (List Token)) → p ≡ q → k ≡ l → map (text new) (all_builds making gathered) ≡ map (text old) (all_builds making gathered) →
    held_lists p (made_text new making) c (map (text new) (reverse gathered)) k m sizes lists ≡ held_lists q (made_text old making) c (map (text old) (reverse gathered)) l m sizes lists
same_held old new making gathered p q c k l m sizes lists is below texts =
    let e = both_same old new making (reverse gathered) texts in
    same_lists _ _ _ _ _ _ _ _ _ _ m sizes lists is e.0 refl e.1 below

module _ (old new : List (Option Entry)) (t : InputStack) (m : Named) (sizes : Sizes) where
  -- where the holders have changed, the tokens are those of the old table
  pub moved_view : (making : Option Build) (gathered : List Build) → Moved old new t m (all_builds making gathered) →
      lists_of new (pending new t) making gathered m sizes ≡ record (lists_of old (pending new t) making gathered m sizes) { lists = texts new }
  moved_view making gathered k =
      let e = both_same old new making (reverse gathered) k.reheld.texts in
      same_lists _ _ _ _ _ _ _ _ _ _ m.table sizes (texts new) k.reheld.in_front e.0 (calling_stays old new m.call k.called) e.1 k.reheld.beneath

  pub macros_moved : (bs : List Build) (lists : List (List Token)) → Moved old new t m bs → texts old ≡ lists → KeepsLists (lists_held m.table.groups) (all_fronts new (pending new t)) lists (texts new)
  macros_moved bs lists k is = subst (λ (ls : List (List Token)). KeepsLists (lists_held m.table.groups) (all_fronts new (pending new t)) ls (texts new)) is (keeps_lists old new new new t m.table k.reheld.kept)

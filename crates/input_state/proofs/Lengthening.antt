-- A list that is being built gets tokens of another list, all of them or as many as have room.
use Rattle.std.proofs.Common.{◌≡◌, ◌≢◌, ℕ, ◌+◌, ◌<◌, ◌≤◌, List, [], ◌∷◌, ◌++◌, map, reverse, length, drop, Option, None, Some, Result, Ok, Err, refl, sym, ap, ◌∙◌, subst, arith, length-append}
use Rattle.std.specs.Prelude.{Bool, option_to_list, IfErr, OnErr}
use Rattle.std.proofs.lemmas.List.{append-nil}
use Rattle.std.proofs.lemmas.List.Elements.{All-head}
use Rattle.tex_defs.specs.declared.Token.{Token}
use Rattle.tex_defs.specs.declared.Full.{Full}
use Rattle.tex_defs.specs.declared.Sizes.{Sizes}
use Rattle.token_lists.specs.declared.Build.{Build}
use Rattle.token_lists.specs.Ids.{build_id, IsBuilding}
use Rattle.token_lists.specs.Table.{Entry, tokens_at, words}
use Rattle.token_lists.specs.Accounts.{Moves, none}
use Rattle.token_lists.specs.Refusals.{IsFull}
use Rattle.equivalents.specs.declared.values.Loc.{Loc}
use Rattle.equivalents.specs.Groups.{Groups}
use Rattle.equivalents.specs.Holding.{lists_held}
use Rattle.eqtb_save.specs.Table.{Table}
use Rattle.eqtb_save.specs.Holding as eqtb
use Rattle.input_stack.specs.View.{pending}
use Rattle.input_stack.specs.declared.stack.InputStack.{InputStack}
use Rattle.input_stack.proofs.Kept.{holds_itself}
use Rattle.macro_call.specs.declared.cursor.Cursor.{Cursor}
use Rattle.macro_call.specs.Cursors.{rest_at}
use Rattle.equivalents.specs.Cases.{case_codes, case_changed}
use Rattle.input_state.specs.declared.appending.Change.TheVariants as change
use Rattle.input_state.specs.Appends.{changed, IsAppendedInPart}
use Rattle.input_state.specs.Changes.{IsOnly}
use Rattle.input_state.specs.HeldAppends.{HeldShort, held_appended, held_appended_made}
use Rattle.input_state.specs.HeldLists.{HeldLists, words_held, first_list}
use Rattle.input_state.specs.HeldViews.{Named, calling_of, fronts, covers, text, made_text, texts, lists_of, all_builds, built, IsShared, IsSound}
use Rattle.input_state.specs.Macros.{KeepsLists}
use Rattle.input_state.specs.AtLocations.{list_number, numbered_tokens, location_tokens, appended, appended_made}
use Rattle.input_state.proofs.ListViews.{held_lists, first_view, made_view, macros_view, reverse_push}
use Rattle.input_state.proofs.Sharing.{Changed, built_cons, built_append, text_at}
use Rattle.input_state.proofs.Copying.{change_nothing}
use Rattle.input_state.proofs.Sounds.{grown, push_builds, push_shared, push_building, changed_sound, used_now, full_now}
use Rattle.input_state.proofs.Sources.{all_fronts}

-- OTHER LISTS

-- a build's list is not the table's
pub kept_apart : (table : List (Option Entry)) (stack : InputStack) (xs ys : List Build) (b : Build) (m : Named) → IsShared table stack (xs ++ b ∷ ys) m → (id : ℕ) → 0 < eqtb.held m.table id → id ≢ build_id b
kept_apart table stack xs ys b m shared id some is =
    let own : 0 < built (xs ++ b ∷ ys) (build_id b) = omega (arith, built_append xs (b ∷ ys) (build_id b), built_cons b ys (build_id b), holds_itself (build_id b)) in
    omega (arith, shared.apart.apart (build_id b) (omega (arith, own)), some, ap (eqtb.held m.table) is)

-- nor another build's
pub build_apart : (table : List (Option Entry)) (stack : InputStack) (xs ys : List Build) (a b : Build) (m : Named) → IsShared table stack (a ∷ (xs ++ b ∷ ys)) m → build_id b ≢ build_id a
build_apart table stack xs ys a b m shared is =
    omega (arith, shared.apart.sole (build_id b), built_cons a (xs ++ b ∷ ys) (build_id b), built_append xs (b ∷ ys) (build_id b), built_cons b ys (build_id b), holds_itself (build_id b), ap (λ (k : ℕ). built (a ∷ []) k) is, built_cons a [] (build_id b), built_cons a [] (build_id a), holds_itself (build_id a))

-- the tokens of the list that stands at a location
pub standing_text : (table : List (Option Entry)) (t : Table) (l : Loc) (id : ℕ) (v : HeldLists) → list_number t.groups l ≡ Some id → texts table ≡ v.lists → t.groups ≡ v.groups → tokens_at table id ≡ location_tokens v.lists v.groups l
standing_text table t l id v is lists groups =
    sym (text_at table id)
    ∙ ap (numbered_tokens (texts table)) (sym is)
    ∙ ap (λ (g : Groups). location_tokens (texts table) g l) groups
    ∙ ap (λ (ls : List (List Token)). location_tokens ls v.groups l) lists

-- they are copied as they stand
pub copied_text : (table : List (Option Entry)) (t : Table) (l : Loc) (id : ℕ) (from : Cursor) (v : HeldLists) → list_number t.groups l ≡ Some id → from.index ≡ 0 → texts table ≡ v.lists → t.groups ≡ v.groups → map (changed change.Nothing t.groups.now) (rest_at table id from) ≡ location_tokens v.lists v.groups l
copied_text table t l id from v is first lists groups =
    change_nothing t.groups.now (rest_at table id from) ∙ ap (λ (n : ℕ). drop n (tokens_at table id)) first ∙ standing_text table t l id v is lists groups

-- of the innermost gathered list all tokens are
pub changed_text : (table : List (Option Entry)) (t : Table) (upper : Bool) (id : ℕ) (from : Cursor) (v : HeldLists) → from.index ≡ 0 → tokens_at table id ≡ first_list v.builds → t.groups ≡ v.groups → map (changed (change.Case upper) t.groups.now) (rest_at table id from) ≡ map (case_changed (case_codes upper v.groups.now)) (first_list v.builds)
changed_text table t upper id from v first is groups =
    ap (λ (g : Groups). map (changed (change.Case upper) g.now) (rest_at table id from)) groups
    ∙ ap (λ (n : ℕ). map (changed (change.Case upper) v.groups.now) (drop n (tokens_at table id))) first
    ∙ ap (map (case_changed (case_codes upper v.groups.now))) is

-- a list without tokens adds nothing
none_appended : (lists : List (List Token)) → appended [] lists ≡ lists
none_appended [] = refl
none_appended (ts ∷ lists) = ap (λ (us : List Token). us ∷ lists) (append-nil ts)

pub adds_nothing : (v : HeldLists) (l : Loc) → list_number v.groups l ≡ None → v ≡ record v { builds = appended (location_tokens v.lists v.groups l) v.builds }
adds_nothing v l none =
    ap (λ (us : List (List Token)). let x : HeldLists = record v { builds = us } in x) (sym (ap (λ (o : Option ℕ). appended (numbered_tokens v.lists o) v.builds) none ∙ none_appended v.builds))

pub adds_none : (v : HeldLists) (l : Loc) → list_number v.groups l ≡ None → length (location_tokens v.lists v.groups l) ≡ 0
adds_none v l none = ap (λ (o : Option ℕ). length (numbered_tokens v.lists o)) none

-- REFUSALS

pub if_both : {T : Type 0} (r : Result T Full) (P : Type 0) (A B : Full → Type 0) → OnErr r P → IfErr r A → (P → (full : Full) → A full → B full) → IfErr r B
if_both (Ok x) P A B p a f = tt
if_both (Err e) P A B p a f = f p e a

-- WORDS

room_for : (old new : List (Option Entry)) (id : ℕ) (ts : List Token) → words new + length (tokens_at old id) ≡ words old + length (tokens_at new id) → tokens_at new id ≡ tokens_at old id ++ ts → words new ≡ words old + length ts
room_for old new id ts all is = omega (arith, all, ap length is, length-append (tokens_at old id) ts)

-- THE INNERMOST GATHERED LIST

module _ (old new : List (Option Entry)) (stack : InputStack) (m : Named) (making : Option Build) (items others rest : List Build) (a b : Build) (pops : items ≡ rest ++ a ∷ []) (pushes : others ≡ rest ++ b ∷ []) (sizes : Sizes) (capacity now : ℕ) (sound : IsSound old stack making items m sizes capacity) (v : HeldLists) (is : lists_of old (pending old stack) making items m sizes ≡ v) (same : build_id b ≡ build_id a) (building : IsBuilding new b) (only : IsOnly old new (build_id a)) (account : Moves old new none none) (size : length new ≡ length old) (same_capacity : now ≡ capacity) where
  first_changed : Changed old new stack m (option_to_list making) (b ∷ []) (reverse rest)
  first_changed =
      grown old new stack m (option_to_list making) (reverse rest) b a (push_shared old stack m making items rest a pops sound.shared) (push_building old stack m making items rest a pops sound.shared) same building only account

  pub first_sound : IsSound new stack making others m sizes now
  first_sound =
      changed_sound old new stack m sizes capacity now size same_capacity (option_to_list making) (b ∷ []) (reverse rest) making making others items (push_builds making others rest b pushes) first_changed sound

  pub first_macros : KeepsLists (lists_held m.table.groups) (all_fronts new (pending new stack)) v.lists (texts new)
  first_macros = macros_view old new stack m sizes making items (option_to_list making) (b ∷ []) (reverse rest) v first_changed is

  pub first_grown : (ts : List Token) → tokens_at new (build_id a) ≡ tokens_at old (build_id a) ++ ts → lists_of new (pending new stack) making others m sizes ≡ record v { builds = appended ts v.builds; lists = texts new }
  first_grown ts more =
      let p = pending old stack in
      let all : List (List Token) → HeldLists = λ us. held_lists (fronts old p.puts) (made_text old making) (calling_of old m.call) us (covers old p.sources) m.table sizes (texts old) in
      let was : lists_of old p making items m sizes ≡ all (text old a ∷ map (text old) (reverse rest)) = ap (λ (bs : List Build). all (map (text old) bs)) (reverse_push items rest a pops) in
      first_view old new stack m sizes making others rest b (text old a ++ ts) first_changed pushes (ap (tokens_at new) same ∙ more)
      ∙ ap (λ (w : HeldLists). record w { builds = appended ts w.builds; lists = texts new }) (sym was ∙ is)

  module _ (words_now : words new + length (tokens_at old (build_id a)) ≡ words old + length (tokens_at new (build_id a))) (within : words new ≤ length new) where
    pub first_fits : (ts : List Token) → tokens_at new (build_id a) ≡ tokens_at old (build_id a) ++ ts → words_held v + length ts ≤ v.sizes.main_memory_size
    first_fits ts more =
        omega (arith, room_for old new (build_id a) ts words_now more, within, size, sound.sized.memory, ap (λ (w : HeldLists). w.sizes.main_memory_size) is, used_now old stack making items m sizes capacity sound v is)

    pub first_short : (ts : List Token) → IsAppendedInPart ts (tokens_at old (build_id a)) (tokens_at new (build_id a)) → (full : Full) → IsFull full new → HeldShort held_appended ts v (lists_of new (pending new stack) making others m sizes) full
    first_short ts part full is_full = record {
      front = part.front;
      next = part.next;
      rest = part.rest;
      split = part.split;
      after = first_grown part.front part.after;
      fits = first_fits part.front part.after;
      refused_then = full_now new stack making others m sizes now first_sound (lists_of new (pending new stack) making others m sizes) refl full is_full;
    }

-- THE LIST THAT IS MADE

module _ (old new : List (Option Entry)) (stack : InputStack) (m : Named) (making was : Option Build) (items : List Build) (a b : Build) (some : was ≡ Some a) (made : making ≡ Some b) (sizes : Sizes) (capacity now : ℕ) (sound : IsSound old stack was items m sizes capacity) (v : HeldLists) (is : lists_of old (pending old stack) was items m sizes ≡ v) (same : build_id b ≡ build_id a) (building : IsBuilding new b) (only : IsOnly old new (build_id a)) (account : Moves old new none none) (size : length new ≡ length old) (same_capacity : now ≡ capacity) where
  shared_made : IsShared old stack (a ∷ reverse items) m
  shared_made = subst (λ (o : Option Build). IsShared old stack (all_builds o items) m) some sound.shared

  made_changed : Changed old new stack m [] (b ∷ []) (reverse items)
  made_changed = grown old new stack m [] (reverse items) b a shared_made (All-head (IsBuilding old) a (reverse items) shared_made.building) same building only account

  pub made_sound : IsSound new stack making items m sizes now
  made_sound =
      changed_sound old new stack m sizes capacity now size same_capacity [] (b ∷ []) (reverse items) making was items items (ap (λ (o : Option Build). all_builds o items) made) made_changed sound

  pub made_macros : KeepsLists (lists_held m.table.groups) (all_fronts new (pending new stack)) v.lists (texts new)
  made_macros = macros_view old new stack m sizes was items [] (b ∷ []) (reverse items) v made_changed is

  pub made_grown : (ts : List Token) → tokens_at new (build_id a) ≡ tokens_at old (build_id a) ++ ts → lists_of new (pending new stack) making items m sizes ≡ record v { making = appended_made ts v.making; lists = texts new }
  made_grown ts more =
      let before = ap (λ (o : Option Build). lists_of old (pending old stack) o items m sizes) (sym some) in
      ap (λ (o : Option Build). lists_of new (pending new stack) o items m sizes) made
      ∙ made_view old new stack m sizes items b (text old a ++ ts) made_changed (ap (tokens_at new) same ∙ more)
      ∙ ap (λ (w : HeldLists). record w { making = appended_made ts w.making; lists = texts new }) (before ∙ is)

  module _ (words_now : words new + length (tokens_at old (build_id a)) ≡ words old + length (tokens_at new (build_id a))) (within : words new ≤ length new) where
    pub made_fits : (ts : List Token) → tokens_at new (build_id a) ≡ tokens_at old (build_id a) ++ ts → words_held v + length ts ≤ v.sizes.main_memory_size
    made_fits ts more =
        omega (arith, room_for old new (build_id a) ts words_now more, within, size, sound.sized.memory, ap (λ (w : HeldLists). w.sizes.main_memory_size) is, used_now old stack was items m sizes capacity sound v is)

    pub made_short : (ts : List Token) → IsAppendedInPart ts (tokens_at old (build_id a)) (tokens_at new (build_id a)) → (full : Full) → IsFull full new → HeldShort held_appended_made ts v (lists_of new (pending new stack) making items m sizes) full
    made_short ts part full is_full = record {
      front = part.front;
      next = part.next;
      rest = part.rest;
      split = part.split;
      after = made_grown part.front part.after;
      fits = made_fits part.front part.after;
      refused_then = full_now new stack making items m sizes now made_sound (lists_of new (pending new stack) making items m sizes) refl full is_full;
    }

-- All stands after one list has changed, or the levels have.
use Rattle.std.proofs.Common.{◌≡◌, ℕ, ◌+◌, ◌<◌, ◌≤◌, List, [], ◌∷◌, ◌++◌, length, map, reverse, replicate, zero, suc, Option, None, Some, Bool, Result, Ok, Err, refl, sym, ap, ◌∙◌, subst, arith}
use Rattle.std.specs.Prelude.{option_to_list, OnOk, OnErr, IfErr, MatchResult}
use Rattle.std.proofs.lemmas.List.Sums.{sum_by-append}
use Rattle.std.proofs.lemmas.List.Elements.{All-head, All-cons, All-nil}
use Rattle.tex_defs.specs.declared.Sizes.{Sizes}
use Rattle.tex_defs.specs.declared.Full.{Full}
use Rattle.tex_defs.specs.declared.Token.{Token}
use Rattle.tex_defs.specs.Sizes.{first_out_of_range}
use Rattle.plain_tokens.specs.Tables.{memory, refused, list_words}
use Rattle.plain_tokens.specs.Puts as plain
use Rattle.token_lists.specs.declared.Build.{Build}
use Rattle.token_lists.specs.Ids.{build_id, IsBuilding}
use Rattle.token_lists.specs.Table.{Entry, entry_at, tokens_at, holders_at, holders_of, words}
use Rattle.token_lists.specs.Accounts.{holds, none, Moves, Keeps}
use Rattle.token_lists.specs.Refusals.{IsFull}
use Rattle.line_lexer.specs.declared.Line.{Line}
use Rattle.world_io.specs.declared.traits.InId.{InId}
use Rattle.equivalents.specs.Groups.{first_groups}
use Rattle.equivalents.specs.Holding.{lists_held}
use Rattle.eqtb_save.specs.Table.{Table, first_table}
use Rattle.eqtb_save.specs.Holding as eqtb
use Rattle.input_stack.specs.Puts.{Put}
use Rattle.input_stack.specs.Pending.{Pending, Below, times, end_token_lists, sources_at, at_line, Ends, EndsIn}
use Rattle.input_stack.specs.View.{pending, pending_in, held, held_in, innermost}
use Rattle.input_stack.specs.Stacks.{IsStack}
use Rattle.input_stack.specs.Lasting.{Lasts, LastsBut}
use Rattle.input_stack.specs.declared.stack.InputStack.{InputStack}
use Rattle.input_stack.specs.WholeLevel.{WholeLevel}
use Rattle.input_stack.proofs.Kept.{holds_itself}
use Rattle.input_state.specs.Changes.{IsOnly}
use Rattle.input_state.specs.HeldLists.{HeldLists, words_held}
use Rattle.input_state.specs.Macros.{KeepsLists}
use Rattle.input_state.specs.HeldViews.{Named, named, names_hold, call_holds, calling_of, text, made_text, covers, puts_below, puts_in, texts, lists_of, all_builds, built, AreFronts, cells_of, IsApart, IsDefined, IsShared, IsSized, IsSound}
use Rattle.input_state.proofs.Shares.{Fewer, apart_fewer, fewer_settle}
use Rattle.input_state.proofs.Sources.{all_fronts}
use Rattle.input_state.proofs.Fronts.{fronts_settled}
use Rattle.input_state.proofs.Levels.{simple_settled}
use Rattle.input_state.specs.Callings.{NotCalling, call_lists}
use Rattle.input_state.specs.declared.gathering.Gathering.TheVariants as call
use Rattle.input_state.proofs.CallStays.{call_stays}
use Rattle.input_state.proofs.Sharing.{Changed, Moved, stay_less, changed, moved, built_cons, all_right}
use Rattle.input_state.proofs.ListViews.{held_lists, reverse_push, moved_view, macros_moved}
use Rattle.input_state.proofs.Words.{words_are, gathered_few}
use Rattle.input_state.proofs.Refusing.{memory_fits, memory_full}

-- ONE LIST

module _ (old new : List (Option Entry)) (stack : InputStack) (m : Named) (xs ys : List Build) (b : Build) where
  pub begun : IsShared old stack (xs ++ ys) m → IsBuilding new b → holders_at old (build_id b) ≡ 0 → IsOnly old new (build_id b) → Moves old new none (holds (build_id b)) → Changed old new stack m xs (b ∷ []) ys
  begun shared building fresh only moves =
      changed old new stack m xs [] (b ∷ []) ys (build_id b) shared only fresh (λ h. omega (arith, moves h, built_cons b [] h)) (All-cons (IsBuilding new) b [] building (All-nil (IsBuilding new))) (omega (arith, building.sole))

  pub gone : IsShared old stack (xs ++ b ∷ ys) m → IsBuilding old b → IsOnly old new (build_id b) → Moves old new (holds (build_id b)) none → Changed old new stack m xs [] ys
  gone shared building only moves =
      let own = holds_itself (build_id b) in
      changed old new stack m xs (b ∷ []) [] ys (build_id b) shared only (omega (arith, building.sole, own, built_cons b [] (build_id b))) (λ h. omega (arith, moves h, built_cons b [] h)) (All-nil (IsBuilding new)) (omega (arith, building.sole, moves (build_id b), own))

  pub grown : (a : Build) → IsShared old stack (xs ++ a ∷ ys) m → IsBuilding old a → build_id b ≡ build_id a → IsBuilding new b → IsOnly old new (build_id a) → Moves old new none none → Changed old new stack m xs (b ∷ []) ys
  grown a shared was same building only moves =
      let own = holds_itself (build_id a) in
      changed old new stack m xs (a ∷ []) (b ∷ []) ys (build_id a) shared only (omega (arith, was.sole, own, built_cons a [] (build_id a))) (λ h. omega (arith, moves h, built_cons a [] h, built_cons b [] h, ap (λ (n : ℕ). holds n h) same)) (All-cons (IsBuilding new) b [] building (All-nil (IsBuilding new))) (omega (arith, was.sole, moves (build_id a)))

-- the builds, where this one is the innermost of those that are gathered
pub push_builds : (making : Option Build) (items rest : List Build) (b : Build) → items ≡ rest ++ b ∷ [] → all_builds making items ≡ option_to_list making ++ b ∷ reverse rest
push_builds making items rest b is = ap (λ (bs : List Build). option_to_list making ++ bs) (reverse_push items rest b is)

pub push_shared : (table : List (Option Entry)) (stack : InputStack) (m : Named) (making : Option Build) (items rest : List Build) (b : Build) → items ≡ rest ++ b ∷ [] → IsShared table stack (all_builds making items) m → IsShared table stack (option_to_list making ++ b ∷ reverse rest) m
push_shared table stack m making items rest b is shared = subst (λ (bs : List Build). IsShared table stack bs m) (push_builds making items rest b is) shared

pub push_building : (table : List (Option Entry)) (stack : InputStack) (m : Named) (making : Option Build) (items rest : List Build) (b : Build) → items ≡ rest ++ b ∷ [] → IsShared table stack (all_builds making items) m → IsBuilding table b
push_building table stack m making items rest b is shared =
    let s = push_shared table stack m making items rest b is shared in
    All-head (IsBuilding table) b (reverse rest) (all_right table (option_to_list making) (b ∷ reverse rest) s.building)

pub sized_now : (old new : List (Option Entry)) (s t : InputStack) (m : Named) (sizes : Sizes) (capacity now : ℕ) → IsSized old s m sizes capacity → length new ≡ length old → t.size ≡ s.size → t.parameter_size ≡ s.parameter_size → now ≡ capacity → IsSized new t m sizes now
sized_now old new s t m sizes capacity now sized length_is size parameters same = record {
  memory = length_is ∙ sized.memory;
  levels = size ∙ sized.levels;
  parameters = parameters ∙ sized.parameters;
  equivalents = sized.equivalents;
  room = omega (arith, sized.room, same);
  ranges = sized.ranges;
}

module _ (old new : List (Option Entry)) (stack : InputStack) (m : Named) (sizes : Sizes) (capacity now : ℕ) (size : length new ≡ length old) (same : now ≡ capacity) where
  pub changed_sound : (xs zs ys : List Build) (making was : Option Build) (gathered items : List Build) → all_builds making gathered ≡ xs ++ (zs ++ ys) → Changed old new stack m xs zs ys → IsSound old stack was items m sizes capacity → IsSound new stack making gathered m sizes now
  changed_sound xs zs ys making was gathered items is c sound = record {
    shared = subst (λ (bs : List Build). IsShared new stack bs m) (sym is) c.shared;
    sized = sized_now old new stack stack m sizes capacity now sound.sized size refl refl same;
    call =
        let part = λ (f : ℕ → ℕ) (less : (h : ℕ) → f h ≤ held stack h + names_hold m h). stay_less old new (λ h. held stack h + names_hold m h) f less c.stays in
        let all_lists = part (eqtb.held m.table) (λ h. omega arith) in
        call_stays old new m.table m.table m.call refl (part (call_holds m.call) (λ h. omega arith)) (record { tokens = all_lists.tokens; places = all_lists.places })
        (record { covers = λ h. omega (arith, c.shared.counted h); outside = λ h some. omega (arith, c.shared.counted h, some) }) sound.call;
  }

-- ROOM

module _ (table : List (Option Entry)) (stack : InputStack) (making : Option Build) (gathered : List Build) (m : Named) (sizes : Sizes) (capacity : ℕ) (sound : IsSound table stack making gathered m sizes capacity) (v : HeldLists) (is : lists_of table (pending table stack) making gathered m sizes ≡ v) where
  pub used_now : words table ≡ words_held v
  used_now = words_are table stack making gathered m sizes sound.shared sound.call ∙ ap words_held is

  pub fits_now : words table < length table → refused v.sizes (memory 1 (words_held v) ∷ []) ≡ None
  fits_now below = memory_fits v.sizes (words_held v) (length table) (omega (arith, below, used_now)) (sound.sized.memory ∙ ap (λ (w : HeldLists). w.sizes.main_memory_size) is)

  pub full_now : (f : Full) → IsFull f table → refused v.sizes (memory 1 (words_held v) ∷ []) ≡ Some f
  full_now f full = memory_full v.sizes table (words_held v) f full used_now (sound.sized.memory ∙ ap (λ (w : HeldLists). w.sizes.main_memory_size) is)

  -- a list more has a place
  pub few_now : words table < length table → length gathered < capacity
  few_now below = omega (arith, below, sound.sized.room, sound.sized.memory, words_are table stack making gathered m sizes sound.shared sound.call, gathered_few table gathered, sum_by-append list_words (call_lists (calling_of table m.call)) (map (text table) (reverse gathered)))

pub match_of : {T : Type 0} (r : Result T Full) (A P : Type 0) (B Q : Full → Type 0) → OnOk r A → IfErr r B → (A → P) → ((f : Full) → B f → Q f) → MatchResult r (λ _. P) Q
match_of (Ok x) A P B Q a b f g = f a
match_of (Err e) A P B Q a b f g = g e b

pub ok_of : {T : Type 0} (r : Result T Full) (A P : Type 0) → OnOk r A → (A → P) → OnOk r P
ok_of (Ok x) A P a f = f a
ok_of (Err e) A P a f = tt

pub err_of : {T E : Type 0} (r : Result T E) (A P : Type 0) → OnErr r A → (A → P) → OnErr r P
err_of (Ok x) A P a f = tt
err_of (Err e) A P a f = f a

-- THE LEVELS

module _ (old new : List (Option Entry)) (s t : InputStack) (making : Option Build) (gathered : List Build) (m : Named) (sizes : Sizes) (capacity : ℕ) (more : ℕ → ℕ) (sound : IsSound old s making gathered m sizes capacity) (stands : IsStack new t) (moves : Moves old new (held s) (held t)) (keeps : Keeps old new (held s)) (lasts : LastsBut old new more) (size : t.size ≡ s.size) (parameters : t.parameter_size ≡ s.parameter_size) (simple : AreFronts (puts_in (pending new t))) (fewer : Fewer (puts_in (pending new t)) (puts_in (pending old s))) where
  keeps_none : Keeps old new (λ h. built [] h + (held s h + eqtb.held m.table h))
  keeps_none = record { tokens = λ h l. keeps.tokens h (omega (arith, l)); places = λ h l. keeps.places h (omega (arith, l)) }

  -- a macro keeps its list
  macros_stay : (h : ℕ) → 0 < eqtb.held m.table h → IsDefined (tokens_at new h)
  macros_stay h some = subst IsDefined (sym (lasts.tokens h (omega (arith, some, moves h, sound.shared.counted h)))) (sound.shared.all_lists h some)

  pub levels_moved : Moved old new t m (all_builds making gathered)
  levels_moved =
      moved old new s t m m [] (all_builds making gathered) sound.shared stands simple
      (apart_fewer (puts_in (pending new t)) (puts_in (pending old s)) (all_builds making gathered) m fewer sound.shared.apart)
      (λ h some. sound.shared.listed h (omega (arith, some, fewer.cells h)))
      (λ h. omega (arith, moves h)) keeps_none lasts.tokens macros_stay (λ h. refl)

  pub levels_sound : IsSound new t making gathered m sizes capacity
  levels_sound = record {
    shared = levels_moved.reheld.shared;
    sized = sized_now old new s t m sizes capacity capacity sound.sized lasts.size size parameters refl;
    call =
        let now = levels_moved.reheld.shared.counted in
        call_stays old new m.table m.table m.call refl levels_moved.called
        (record { tokens = λ h some. keeps.tokens h (omega (arith, some, sound.shared.counted h)); places = λ h some. keeps.places h (omega (arith, some, sound.shared.counted h)) })
        (record { covers = λ h. omega (arith, now h); outside = λ h some. omega (arith, now h, some) }) sound.call;
  }

-- no list has more holders
pub lasts_none : (old new : List (Option Entry)) → Lasts old new → LastsBut old new none
lasts_none old new lasts = record { size = lasts.size; fewer = λ h. omega (arith, lasts.fewer h); tokens = lasts.tokens }

module _ (old new : List (Option Entry)) (s t : InputStack) (making : Option Build) (gathered : List Build) (m : Named) (sizes : Sizes) (capacity : ℕ) (sound : IsSound old s making gathered m sizes capacity) (stands : IsStack new t) (moves : Moves old new (held s) (held t)) (keeps : Keeps old new (held s)) (lasts : Lasts old new) (size : t.size ≡ s.size) (parameters : t.parameter_size ≡ s.parameter_size) where
  module _ (after : pending new t ≡ end_token_lists (pending old s)) where
    settled_simple : AreFronts (puts_in (pending new t))
    settled_simple = subst (λ (p : Pending). AreFronts (puts_in p)) (sym after) (simple_settled (pending old s) sound.shared.fronts)

    settled_few : Fewer (puts_in (pending new t)) (puts_in (pending old s))
    settled_few = subst (λ (p : Pending). Fewer (puts_in p) (puts_in (pending old s))) (sym after) (fewer_settle (pending old s))

    settled_moved : Moved old new t m (all_builds making gathered)
    settled_moved = levels_moved old new s t making gathered m sizes capacity none sound stands moves keeps (lasts_none old new lasts) size parameters settled_simple settled_few

    pub settled_sound : IsSound new t making gathered m sizes capacity
    settled_sound = levels_sound old new s t making gathered m sizes capacity none sound stands moves keeps (lasts_none old new lasts) size parameters settled_simple settled_few

    pub settled_view : (v : HeldLists) → lists_of old (pending old s) making gathered m sizes ≡ v → lists_of new (pending new t) making gathered m sizes ≡ record v { puts = plain.without_ended v.puts; lists = texts new }
    settled_view v is =
        moved_view old new t m sizes making gathered settled_moved
        ∙ ap (λ (p : Pending). record (lists_of old p making gathered m sizes) { lists = texts new }) after
        ∙ ap (λ (ps : List plain.Put). held_lists ps (made_text old making) (calling_of old m.call) (map (text old) (reverse gathered)) (covers old (pending old s).sources) m.table sizes (texts new)) (fronts_settled old (pending old s).puts)
        ∙ ap (λ (w : HeldLists). record w { puts = plain.without_ended w.puts; lists = texts new }) is

    pub settled_macros : (v : HeldLists) → lists_of old (pending old s) making gathered m sizes ≡ v → KeepsLists (lists_held m.table.groups) (all_fronts new (pending new t)) v.lists (texts new)
    settled_macros v is = macros_moved old new t m sizes (all_builds making gathered) v.lists settled_moved (ap (λ (w : HeldLists). w.lists) is)

-- THE LEVELS ALONE

module _ (table : List (Option Entry)) (s t : InputStack) (making : Option Build) (gathered : List Build) (m : Named) (sizes : Sizes) (capacity : ℕ) (sound : IsSound table s making gathered m sizes capacity) (stands : IsStack table t) (held_same : (h : ℕ) → held t h ≡ held s h) (size : t.size ≡ s.size) (parameters : t.parameter_size ≡ s.parameter_size) where
  pub line_sound : puts_in (pending table t) ≡ puts_in (pending table s) → IsSound table t making gathered m sizes capacity
  line_sound same = record {
    shared = record {
      stands = stands;
      fronts = subst AreFronts (sym same) sound.shared.fronts;
      building = sound.shared.building;
      counted = λ h. omega (arith, sound.shared.counted h, held_same h);
      apart = subst (λ (ps : List Put). IsApart ps (all_builds making gathered) m) (sym same) sound.shared.apart;
      all_lists = sound.shared.all_lists;
      listed = λ h some. sound.shared.listed h (subst (λ (ps : List Put). 0 < times h (cells_of ps)) same some);
    };
    sized = sized_now table table s t m sizes capacity capacity sound.sized refl size parameters refl;
    call = sound.call;
  }

line_puts : (line : Line) (bs : List Below) → puts_below (sources_at line bs) ≡ puts_below bs
line_puts line [] = refl
line_puts line (b ∷ bs) = refl

-- a file goes on at a line, and the lists in front are as they were
pub at_line_puts : (p q : Pending) (line : Line) → q ≡ at_line line p → puts_in q ≡ puts_in p
at_line_puts p q line is = ap puts_in is ∙ ap (λ (ps : List Put). p.puts ++ ps) (line_puts line p.sources)

-- a file goes, in front of which nothing is left
ended_puts : (bs : List Below) (q : Pending) (id : Option InId) → EndsIn bs q id → puts_in q ≡ puts_below bs
ended_puts [] q id ends = absurd ends
ended_puts (b ∷ bs) q id ends = ap puts_in ends.1

pub end_puts : (p q : Pending) (id : Option InId) → p.puts ≡ [] → Ends p q id → puts_in q ≡ puts_in p
end_puts p q id none ends = ended_puts p.sources q id ends ∙ sym (ap (λ (ps : List Put). ps ++ puts_below p.sources) none)

-- NO LISTS

none_at : (n h : ℕ) → entry_at (replicate n None) h ≡ None
none_at zero h = refl
none_at (suc n) zero = refl
none_at (suc n) (suc h) = none_at n h

pub texts_none : (n : ℕ) → texts (replicate n None) ≡ replicate n []
texts_none zero = refl
texts_none (suc n) = ap (λ (ts : List (List Token)). [] ∷ ts) (texts_none n)

length_new : (n : ℕ) → length (replicate {A = Option Entry} n None) ≡ n
length_new zero = refl
length_new (suc n) = omega (arith, length_new n)

pub new_sound : (knows : ℕ → Bool) (table : List (Option Entry)) (stack : InputStack) (items : List Build) (m : Table) (sizes : Sizes) (capacity : ℕ) → table ≡ replicate sizes.main_memory_size None → innermost stack ≡ [] → IsStack table stack → stack.size ≡ sizes.input_stack_size → stack.parameter_size ≡ sizes.parameter_stack_size → items ≡ [] → sizes.main_memory_size ≤ capacity → first_out_of_range sizes ≡ None → m ≡ first_table knows sizes → ((h : ℕ) → eqtb.held m h ≡ 0) → IsSound table stack None items (named m call.None) sizes capacity
new_sound knows table stack items m sizes capacity is empty stands size parameters none room ranges first free =
    let zero_at : (h : ℕ) → holders_at table h ≡ 0 = λ h. ap (λ (t : List (Option Entry)). holders_at t h) is ∙ ap holders_of (none_at sizes.main_memory_size h) in
    let s : IsShared table stack [] (named m call.None) = record {
      stands = stands;
      fronts = subst (λ (ls : List WholeLevel). AreFronts (puts_in (pending_in table ls))) (sym empty) tt;
      building = All-nil (IsBuilding table);
      counted = λ h. omega (arith, zero_at h, ap (λ (ls : List WholeLevel). held_in ls h) empty, free h);
      apart = subst (λ (ls : List WholeLevel). IsApart (puts_in (pending_in table ls)) [] (named m call.None)) (sym empty) (record { sole = λ h. omega arith; apart = λ h some. omega (arith, some) });
      all_lists = λ h some. absurd (omega (arith, some, free h));
      listed = λ h some.
          let here : 0 < times h (cells_of (puts_in (pending_in table []))) = subst (λ (ls : List WholeLevel). 0 < times h (cells_of (puts_in (pending_in table ls)))) empty some in
          absurd (omega (arith, here));
    } in
    record {
      shared = subst (λ (bs : List Build). IsShared table stack (reverse bs) (named m call.None)) (sym none) s;
      sized = record {
        memory = ap length is ∙ length_new sizes.main_memory_size;
        levels = size;
        parameters = parameters;
        equivalents = ap (λ (k : Table). k.sizes) first;
        room = room;
        ranges = ranges;
      };
      call = tt;
    }

-- nothing is held, and all stands as INITEX has it, where these primitives mean something
abbrev pub first_lists : (ℕ → Bool) → Sizes → HeldLists
first_lists knows sizes = record { puts = []; making = None; call = NotCalling; builds = []; below = []; sizes = sizes; groups = first_groups knows; closing = []; ending = None; lists = replicate sizes.main_memory_size [] }

pub new_view : (knows : ℕ → Bool) (table : List (Option Entry)) (stack : InputStack) (items : List Build) (m : Table) (sizes : Sizes) → table ≡ replicate sizes.main_memory_size None → innermost stack ≡ [] → items ≡ [] → m ≡ first_table knows sizes → lists_of table (pending table stack) None items (named m call.None) sizes ≡ first_lists knows sizes
new_view knows table stack items m sizes is empty none first =
    ap (λ (ls : List WholeLevel). lists_of table (pending_in table ls) None items (named m call.None) sizes) empty
    ∙ ap (λ (bs : List Build). held_lists [] None NotCalling (map (text table) (reverse bs)) [] m sizes (texts table)) none
    ∙ ap (λ (k : Table). held_lists [] None NotCalling [] [] k sizes (texts table)) first
    ∙ ap (λ (ts : List (List Token)). held_lists [] None NotCalling [] [] (first_table knows sizes) sizes ts) (ap texts is ∙ texts_none sizes.main_memory_size)

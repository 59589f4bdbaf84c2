-- A call whose arguments are there is put.
use Rattle.std.proofs.Common.{◌≡◌, ℕ, ◌+◌, ◌<◌, List, [], ◌∷◌, ◌++◌, map, take, reverse, length, Option, None, Some, Bool, true, false, cond, inl, inr, refl, sym, ap, ap₂, ◌∙◌, subst, arith}
use Rattle.std.specs.Prelude.{nat_le, if◌then◌else◌}
use Rattle.std.proofs.lemmas.Bool.{cases_eq, cases_lt}
use Rattle.std.proofs.lemmas.List.Sums.{sum_by-cons}
use Rattle.tex_defs.specs.declared.Token.{Token}
use Rattle.tex_defs.specs.declared.Name.{Name}
use Rattle.tex_defs.specs.declared.Full.{Full}
use Rattle.tex_defs.specs.declared.Sizes.{Sizes}
use Rattle.tex_defs.specs.declared.Meaning.{Meaning}
use Rattle.plain_tokens.specs.Meanings.{name_meaning}
use Rattle.plain_tokens.specs.Puts as plain
use Rattle.plain_tokens.specs.Tables.{refused}
use Rattle.token_lists.specs.declared.Build.{Build}
use Rattle.token_lists.specs.declared.ListRef.{ListRef}
use Rattle.token_lists.specs.Ids.{id_of}
use Rattle.token_lists.specs.Table.{Entry, tokens_at, holders_at}
use Rattle.token_lists.specs.Accounts.{holds, Moves, Keeps, Covers}
use Rattle.macro_args.specs.declared.args.Args.{Args}
use Rattle.macro_args.specs.Args.{args_in, args_hold, IsFilled}
use Rattle.eqtb_save.specs.Table.{Table}
use Rattle.eqtb_save.specs.Holding as eqtb
use Rattle.equivalents.specs.Holding.{list_of, lists_held}
use Rattle.input_stack.specs.Puts.{Put, Item, numbers, when_some, used_arguments}
use Rattle.input_stack.specs.Calls.{Argument, call_put, argument_list}
use Rattle.input_stack.specs.CallViews.{argument_in, arguments_in, Shares}
use Rattle.input_stack.specs.Pushes.{pushed_holds, call_refused}
use Rattle.input_stack.specs.Pending as stack
use Rattle.input_stack.specs.Pending.{Pending, Below, put, times, used_parameters, used_levels, parameters_full, parameter_room, either, room}
use Rattle.input_stack.specs.View.{pending, held}
use Rattle.input_stack.specs.Stacks.{IsStack}
use Rattle.input_stack.specs.Lasting.{Lasts}
use Rattle.input_stack.specs.declared.stack.InputStack.{InputStack}
use Rattle.input_state.specs.HeldLists.{HeldLists, covered_puts, put_refusal, parameters_held, level_held}
use Rattle.input_state.specs.Macros.{KeepsLists}
use Rattle.input_state.specs.Calls.{put_of, called, when_put}
use Rattle.input_state.specs.Callings.{NotCalling, Gathered}
use Rattle.input_state.specs.declared.gathering.Gathering as code
use Rattle.input_state.specs.declared.gathering.Gathering.TheVariants as call
use Rattle.input_state.specs.HeldViews.{named, call_holds, names_hold, calling_of, IsCall, text, made_text, texts, front, fronts, plain_item, covers, lists_of, all_builds, built, owns, bodies, cells_of, puts_in, AreFronts, IsApart, IsDefined, IsSound}
use Rattle.input_state.proofs.Counting.{times_cons, times_append, holds_other}
use Rattle.input_state.proofs.Shares.{apart_fewer, fewer_put_in}
use Rattle.input_state.proofs.Levels.{simple_put, levels_used}
use Rattle.input_state.proofs.Sharing.{Reheld, reheld, keeps_lists, text_at}
use Rattle.input_state.proofs.ListViews.{held_lists, same_held}
use Rattle.input_state.proofs.Refusing.{levels_refused}
use Rattle.input_state.proofs.Settling.{settled_levels_in, settled_parameters_in}
use Rattle.input_state.proofs.Sources.{all_fronts, fronts_in, sum_in}
use Rattle.input_state.proofs.CallNumbers.{have_tokens, token_at}
use Rattle.input_state.proofs.CallKept.{shared_stands}
use Rattle.input_state.proofs.PutItems.{args_numbers, args_length, call_is, call_front, front_called, macro_put_is}

-- PARAMETERS

when_plain : (xs : List Item) (n : ℕ) → when_some xs n ≡ plain.when_some (map plain_item xs) n
when_plain [] n = refl
when_plain (x ∷ xs) n = refl

map_length : {A B : Type 0} (f : A → B) (xs : List A) → length (map f xs) ≡ length xs
map_length f [] = refl
map_length f (x ∷ xs) = omega (arith, map_length f xs)

front_parameters : (table : List (Option Entry)) (ps : List Put) → used_arguments ps ≡ plain.put_parameters (fronts table ps)
front_parameters table [] = refl
front_parameters table (p ∷ ps) =
    let here : when_some p.items (length p.arguments) ≡ plain.when_some (front table p).items (length (front table p).arguments) =
    when_plain p.items (length p.arguments) ∙ ap (plain.when_some (map plain_item p.items)) (sym (map_length _ p.arguments)) in
    omega (arith, front_parameters table ps, here, sum_by-cons (λ (x : Put). when_some x.items (length x.arguments)) p ps, sum_by-cons (λ (x : plain.Put). plain.when_some x.items (length x.arguments)) (front table p) (fronts table ps))

-- WHAT IS REFUSED

refused_by : (sizes : Sizes) (b : Bool) (f : Full) (o : Option Full) → either (cond b None (Some f)) o ≡ (if b then o else Some f)
refused_by sizes true f o = refl
refused_by sizes false f o = refl

module _ (old mid : List (Option Entry)) (s : InputStack) (making : Option Build) (gathered : List Build) (m : Table) (k : code.Gathering) (sizes : Sizes) (capacity : ℕ) (sound : IsSound old s making gathered (named m k) sizes capacity) (name : Name) (body : ListRef) (args : Args) (filled : IsFilled args) (is_call : k ≡ call.Gathered name args) (shares : Shares old mid (holds (id_of body))) (v : HeldLists) (is : lists_of old (pending old s) making gathered (named m k) sizes ≡ v) (list_is : list_of (name_meaning m.groups.now.meanings name) ≡ Some (id_of body)) where
  same_cells : (cells : List (Option ListRef)) → map (argument_in mid) cells ≡ map (argument_in old) cells
  same_cells [] = refl
  same_cells (None ∷ cells) = ap (λ (us : List (Option Argument)). None ∷ us) (same_cells cells)
  same_cells (Some r ∷ cells) = ap₂ (λ (ts : List Token) (us : List (Option Argument)). let a : Argument = record { list = id_of r; tokens = ts } in Some a ∷ us) (shares.tokens (id_of r)) (same_cells cells)

  same_arguments : arguments_in mid args ≡ arguments_in old args
  same_arguments = same_cells (take args.count args.lists)

  -- the call that is put
  pub put_same : call_put (id_of body) (tokens_at mid (id_of body)) (arguments_in mid args) ≡ call_put (id_of body) (tokens_at old (id_of body)) (arguments_in old args)
  put_same = ap₂ (λ (ts : List Token) (us : List (Option Argument)). call_put (id_of body) ts us) (shares.tokens (id_of body)) same_arguments

  calls : v.call ≡ Gathered name (args_in old args)
  calls = sym (ap (λ (w : HeldLists). w.call) is) ∙ ap (calling_of old) is_call

  pub put_is : front old (call_put (id_of body) (tokens_at old (id_of body)) (arguments_in old args)) ≡ put_of v.lists v.groups.now.meanings v.call
  put_is =
      call_front old (id_of body) (tokens_at old (id_of body)) args
      ∙ ap (λ (ts : List Token). plain.call_put (id_of body) ts (args_in old args)) (sym (text_at old (id_of body)))
      ∙ sym (macro_put_is (texts old) (name_meaning m.groups.now.meanings name) (id_of body) (args_in old args) list_is)
      ∙ ap₂ (λ (ls : List (List Token)) (ms : List (Meaning (Option ℕ))). put_of ls ms (Gathered name (args_in old args))) (ap (λ (w : HeldLists). w.lists) is) (ap (λ (w : HeldLists). w.groups.now.meanings) is)
      ∙ ap (put_of v.lists v.groups.now.meanings) (sym calls)

  settled_was : HeldLists
  settled_was = record (lists_of old (pending old s) making gathered (named m k) sizes) { puts = plain.without_ended (fronts old (pending old s).puts) }

  level_refused : room s.size (used_levels (pending old s)) ≡ refused sizes (level_held settled_was ∷ [])
  unfolding settled_was
  level_refused = levels_refused sizes (used_levels (pending old s)) _ s.size (levels_used old (pending old s) ∙ sym (ap (λ (n : ℕ). n + length (covers old (pending old s).sources)) (settled_levels_in (fronts old (pending old s).puts) (covered_puts (covers old (pending old s).sources))))) sound.sized.levels

  used_now : ℕ
  used_now = plain.put_parameters (plain.without_ended (fronts old (pending old s).puts) ++ covered_puts (covers old (pending old s).sources))

  used_is : used_parameters (pending old s) ≡ used_now
  unfolding used_now
  used_is =
      sum_in (λ (p : Put). when_some p.items (length p.arguments)) (pending old s)
      ∙ front_parameters old (puts_in (pending old s))
      ∙ ap plain.put_parameters (fronts_in old (pending old s))
      ∙ sym (settled_parameters_in (fronts old (pending old s).puts) (covered_puts (covers old (pending old s).sources)))

  both_refused : either (parameter_room s.parameter_size (used_parameters (pending old s)) args.count) (room s.size (used_levels (pending old s))) ≡ refused sizes (parameters_held (plain.call_put (id_of body) (tokens_at old (id_of body)) (args_in old args)) settled_was ∷ level_held settled_was ∷ [])
  unfolding settled_was used_now
  both_refused =
      ap (either (parameter_room s.parameter_size (used_parameters (pending old s)) args.count)) level_refused
      ∙ ap₂ (λ (u z : ℕ). either (parameter_room z u args.count) (refused sizes (level_held settled_was ∷ []))) used_is sound.sized.parameters
      ∙ ap (λ (n : ℕ). either (parameter_room sizes.parameter_stack_size used_now n) (refused sizes (level_held settled_was ∷ []))) (sym (args_length old args filled))
      ∙ refused_by sizes (nat_le (used_now + length (args_in old args)) sizes.parameter_stack_size) (parameters_full used_now sizes.parameter_stack_size) (refused sizes (level_held settled_was ∷ []))

  by_items : (xs : List Item) → stack.call_refusal s.size s.parameter_size args.count xs (pending old s) ≡ refused sizes (when_put (map plain_item xs) (parameters_held (plain.call_put (id_of body) (tokens_at old (id_of body)) (args_in old args)) settled_was ∷ level_held settled_was ∷ []))
  by_items [] = refl
  by_items (x ∷ xs) = both_refused

  pub put_refused : call_refused s mid body args ≡ put_refusal (put_of v.lists v.groups.now.meanings v.call) v
  unfolding settled_was
  put_refused =
      ap₂ (λ (x : Put) (p : Pending). stack.call_refusal s.size s.parameter_size args.count x.items p) put_same (shared_stands old mid s (all_builds making gathered) (named m k) (id_of body) sound.shared shares).1
      ∙ by_items (call_put (id_of body) (tokens_at old (id_of body)) (arguments_in old args)).items
      ∙ ap (λ (p : plain.Put). refused sizes (when_put (front old (call_put (id_of body) (tokens_at old (id_of body)) (arguments_in old args))).items (parameters_held p settled_was ∷ level_held settled_was ∷ []))) (sym (call_front old (id_of body) (tokens_at old (id_of body)) args))
      ∙ ap (λ (p : plain.Put). put_refusal p (lists_of old (pending old s) making gathered (named m k) sizes)) put_is
      ∙ ap (put_refusal (put_of v.lists v.groups.now.meanings v.call)) is

-- THE CALL IS PUT

module _ (old mid new : List (Option Entry)) (s t : InputStack) (making : Option Build) (gathered : List Build) (m : Table) (k l : code.Gathering) (sizes : Sizes) (capacity : ℕ) (sound : IsSound old s making gathered (named m k) sizes capacity) (name : Name) (body : ListRef) (args : Args) (is_call : k ≡ call.Gathered name args) (is_none : l ≡ call.None) (is_meant : 0 < eqtb.held m (id_of body)) (shares : Shares old mid (holds (id_of body))) (stands : IsStack new t) (after : pending new t ≡ put (call_put (id_of body) (tokens_at mid (id_of body)) (arguments_in mid args)) (pending mid s)) (moves : Moves mid new (λ h. pushed_holds body args h + held s h) (held t)) (keeps : Keeps mid new (λ h. pushed_holds body args h + held s h)) (lasts : Lasts mid new) (size : t.size ≡ s.size) (parameters : t.parameter_size ≡ s.parameter_size) (v : HeldLists) (is : lists_of old (pending old s) making gathered (named m k) sizes ≡ v) (list_is : list_of (name_meaning m.groups.now.meanings name) ≡ Some (id_of body)) where
  its_call : IsCall old m (call.Gathered name args)
  its_call = subst (IsCall old m) is_call sound.call

  its_holds : (h : ℕ) → call_holds k h ≡ args_hold args h
  its_holds h = ap (λ (g : code.Gathering). call_holds g h) is_call

  now : pending new t ≡ put (call_put (id_of body) (tokens_at old (id_of body)) (arguments_in old args)) (pending old s)
  now = after ∙ ap₂ put (put_same old mid s making gathered m k sizes capacity sound name body args its_call.filled is_call shares v is list_is) (shared_stands old mid s (all_builds making gathered) (named m k) (id_of body) sound.shared shares).1

  its_cells : (h : ℕ) → times h (numbers (map argument_list (arguments_in old args))) ≡ args_hold args h
  its_cells h = args_numbers old args h its_call.filled

  own_now : (h : ℕ) → times h (owns (call_put (id_of body) (tokens_at old (id_of body)) (arguments_in old args) ∷ puts_in (pending old s))) ≡ args_hold args h + times h (owns (puts_in (pending old s)))
  own_now h = omega (arith, its_cells h, times_append h (numbers (map argument_list (arguments_in old args))) (owns (puts_in (pending old s))))

  -- the arguments are the level's, and the macro's body is read once more
  apart_first : IsApart (call_put (id_of body) (tokens_at old (id_of body)) (arguments_in old args) ∷ puts_in (pending old s)) (all_builds making gathered) (named m call.None)
  apart_first = record {
    sole = λ h. omega (arith, sound.shared.apart.sole h, own_now h, its_holds h);
    apart = λ h more. elim (cases_eq h (id_of body)) [
      | inl here ↦
          let free = sound.shared.apart.apart h (omega (arith, more, own_now h, its_holds h)) in
          absurd (omega (arith, free, ap (eqtb.held m) here, is_meant))
      | inr other ↦ omega (arith, sound.shared.apart.apart h (omega (arith, more, own_now h, its_holds h)), times_cons h (id_of body) (bodies (puts_in (pending old s))), holds_other (id_of body) h (λ e. other (sym e)))
    ];
  }

  apart_now : IsApart (puts_in (pending new t)) (all_builds making gathered) (named m call.None)
  apart_now =
      subst (λ (p : Pending). IsApart (puts_in p) (all_builds making gathered) (named m call.None)) (sym now)
      (apart_fewer (puts_in (put (call_put (id_of body) (tokens_at old (id_of body)) (arguments_in old args)) (pending old s))) (call_put (id_of body) (tokens_at old (id_of body)) (arguments_in old args) ∷ puts_in (pending old s)) (all_builds making gathered) (named m call.None)
      (fewer_put_in (call_put (id_of body) (tokens_at old (id_of body)) (arguments_in old args)) (pending old s)) apart_first)

  simple_now : AreFronts (puts_in (pending new t))
  simple_now = subst (λ (p : Pending). AreFronts (puts_in p)) (sym now) (simple_put (call_put (id_of body) (tokens_at old (id_of body)) (arguments_in old args)) (pending old s) (call_is (id_of body) (tokens_at old (id_of body)) (arguments_in old args)) sound.shared.fronts)

  listed_one : (h : ℕ) → 0 < args_hold args h → 0 < length (tokens_at old h)
  listed_one h some = token_at old args.lists (have_tokens old args.lists its_call.listed.tokens) h some

  listed_now : (h : ℕ) → 0 < times h (cells_of (puts_in (pending new t))) → 0 < length (tokens_at old h)
  listed_now h some =
      let there : 0 < times h (cells_of (puts_in (put (call_put (id_of body) (tokens_at old (id_of body)) (arguments_in old args)) (pending old s)))) = subst (λ (p : Pending). 0 < times h (cells_of (puts_in p))) now some in
      let few = (fewer_put_in (call_put (id_of body) (tokens_at old (id_of body)) (arguments_in old args)) (pending old s)).cells h in
      let all = times_append h (numbers (map argument_list (arguments_in old args))) (cells_of (puts_in (pending old s))) in
      elim (cases_lt 0 (args_hold args h)) [
        | inl own ↦ listed_one h own
        | inr free ↦ sound.shared.listed h (omega (arith, there, few, all, its_cells h, free))
      ]

  counts : (h : ℕ) → holders_at new h + (built [] h + (held s h + names_hold (named m k) h)) ≡ holders_at old h + (held t h + names_hold (named m call.None) h)
  counts h = omega (arith, moves h, shares.holders h, its_holds h)

  there : (h : ℕ) → 0 < held t h + eqtb.held m h → 0 < holders_at new h
  there h some = omega (arith, some, moves h, shares.holders h, its_holds h, sound.shared.counted h)

  lasting : (h : ℕ) → 0 < held t h + eqtb.held m h → tokens_at new h ≡ tokens_at old h
  lasting h some = lasts.tokens h (there h some) ∙ shares.tokens h

  reheld_now : Reheld old new t (named m call.None) (all_builds making gathered)
  reheld_now =
      reheld old new s t (named m k) (named m call.None) [] (all_builds making gathered) sound.shared counts stands simple_now apart_now listed_now
      (record {
        tokens = λ h few. keeps.tokens h (omega (arith, few, shares.holders h, its_holds h)) ∙ shares.tokens h;
        places = λ h few. keeps.places h (omega (arith, few, shares.holders h, its_holds h)) ∙ shares.places h;
      })
      lasting
      (λ h some. subst IsDefined (sym (lasting h (omega (arith, some)))) (sound.shared.all_lists h some))

  none_sound : IsSound new t making gathered (named m call.None) sizes capacity
  none_sound = record {
    shared = reheld_now.shared;
    sized = record {
      memory = lasts.size ∙ shares.size ∙ sound.sized.memory;
      levels = size ∙ sound.sized.levels;
      parameters = parameters ∙ sound.sized.parameters;
      equivalents = sound.sized.equivalents;
      room = sound.sized.room;
      ranges = sound.sized.ranges;
    };
    call = tt;
  }

  pub put_sound : IsSound new t making gathered (named m l) sizes capacity
  put_sound = subst (λ (g : code.Gathering). IsSound new t making gathered (named m g) sizes capacity) (sym is_none) none_sound

  pub put_macros : KeepsLists (lists_held m.groups) (all_fronts new (pending new t)) v.lists (texts new)
  put_macros = subst (λ (w : HeldLists). KeepsLists (lists_held m.groups) (all_fronts new (pending new t)) w.lists (texts new)) is (keeps_lists old new new new t m reheld_now.kept)

  put_fronts : fronts old (pending new t).puts ≡ called (put_of v.lists v.groups.now.meanings v.call) (fronts old (pending old s).puts)
  put_fronts =
      ap (λ (p : Pending). fronts old p.puts) now
      ∙ front_called old (call_put (id_of body) (tokens_at old (id_of body)) (arguments_in old args)) (pending old s).puts
      ∙ ap (λ (p : plain.Put). called p (fronts old (pending old s).puts)) (put_is old mid s making gathered m k sizes capacity sound name body args its_call.filled is_call shares v is list_is)

  pub put_view : lists_of new (pending new t) making gathered (named m l) sizes ≡ record v { puts = called (put_of v.lists v.groups.now.meanings v.call) v.puts; call = NotCalling; lists = texts new }
  put_view =
      ap (λ (g : code.Gathering). lists_of new (pending new t) making gathered (named m g) sizes) is_none
      ∙ same_held old new making gathered (fronts new (pending new t).puts) (fronts old (pending new t).puts) NotCalling (covers new (pending new t).sources) (covers old (pending new t).sources) m sizes (texts new) reheld_now.in_front reheld_now.beneath reheld_now.texts
      ∙ ap (λ (ps : List plain.Put). held_lists ps (made_text old making) NotCalling (map (text old) (reverse gathered)) (covers old (pending new t).sources) m sizes (texts new)) put_fronts
      ∙ ap (λ (p : Pending). held_lists (called (put_of v.lists v.groups.now.meanings v.call) (fronts old (pending old s).puts)) (made_text old making) NotCalling (map (text old) (reverse gathered)) (covers old p.sources) m sizes (texts new)) now
      ∙ ap (λ (w : HeldLists). record w { puts = called (put_of v.lists v.groups.now.meanings v.call) w.puts; call = NotCalling; lists = texts new }) is

-- what is given to the level is counted
pub put_covered : (old mid : List (Option Entry)) (s : InputStack) (making : Option Build) (gathered : List Build) (m : Table) (k : code.Gathering) (sizes : Sizes) (capacity : ℕ) (name : Name) (body : ListRef) (args : Args) → IsSound old s making gathered (named m k) sizes capacity → k ≡ call.Gathered name args → Shares old mid (holds (id_of body)) → Covers mid (λ h. pushed_holds body args h + held s h)
put_covered old mid s making gathered m k sizes capacity name body args sound is_call shares h =
    omega (arith, sound.shared.counted h, shares.holders h, ap (λ (g : code.Gathering). call_holds g h) is_call)

-- The open conditionals, and the lines of `\end`.
use Rattle.std.proofs.Common.{◌≡◌, ◌<◌, ◌≤◌, ◌+◌, ℕ, true, false, List, [], ◌∷◌, ◌++◌, length, take, drop, arith, refl, sym, ap, ◌∙◌, subst, append_assoc}
use Rattle.std.specs.Prelude.{Bool, Option, Some, None, Result, Ok, Err, OnOk, IfErr, nat_le, slice_get}
use Rattle.std.proofs.lemmas.Bool.Decides.{nat_tests}
use Rattle.std.proofs.lemmas.List.{take_all, take_more, take-append-drop}
use Rattle.std.proofs.lemmas.Option.{slice_get_within, get_or_from_slice_get}
use Rattle.tex_defs.specs.Places.{World, Transcript}
use Rattle.tex_defs.specs.declared.Full.{Full}
use Rattle.tex_defs.specs.declared.Sizes.{Sizes}
use Rattle.tex_defs.specs.declared.Meaning.{Meaning}
use Rattle.tex_defs.specs.declared.Meaning.TheVariants as means
use Rattle.tex_defs.specs.declared.Seen.{Seen}
use Rattle.tex_defs.specs.declared.Token.{Token}
use Rattle.conditionals.specs.declared.limits.Limit.{Limit}
use Rattle.conditionals.specs.declared.open.Conditional.{Conditional}
use Rattle.conditionals.specs.Open.{Stack, opened, stack_full, with_limit}
use Rattle.conditionals.specs.Same.{same_meaning}
use Rattle.plain_tokens.specs.Arguments.{are_same}
use Rattle.plain_tokens.specs.Meanings.{meaning_to_let}
use Rattle.plain_tokens.specs.Pending.{all_puts}
use Rattle.plain_tokens.specs.Printed.{Style, meaning_tokens}
use Rattle.plain_machine.specs.declared.broken.Broken.{Broken}
use Rattle.plain_machine.specs.declared.broken.Broken.TheVariants as broken
use Rattle.plain_machine.specs.States.{Move, Written, ConditionOpened, LimitSet, ConditionClosed}
use Rattle.plain_machine.specs.Plan.{conditionals_left, shared_tokens, tokens_meant}
use Rattle.plain_machine.specs.Does.{Did}
use Rattle.plain_machine.proofs.Doing.{did_one, did_none, did_join}
use Rattle.plain_machine.proofs.Ties.{tokens_let}
use Rattle.world_io.specs.Contents.{FilesTold, SinkTold}
use Rattle.input_state.specs.Calls.{macro_text, list_to_let}
use Rattle.engine_state.specs.declared.engine.Engine.{Engine}
use Rattle.engine_state.specs.declared.outcome.Last.TheVariants.{End}
use Rattle.engine_state.specs.Begins.{last_bytes, last_written}
use Rattle.engine_state.specs.Book.{Book}
use Rattle.engine_state.specs.Rules.{world_of, Cuts}
use Rattle.engine_state.specs.Stands.{IsSized, IsSound, Stands, OnlyColumn, state_of, page_of, own_style}
use Rattle.engine_state.proofs.CallKept.{frames_kept}
use Rattle.engine_state.proofs.Cutting.{full_cuts, later_cuts, cuts_by}
use Rattle.engine_state.proofs.Joining.{on_both, quiet_here}
use Rattle.engine_state.proofs.AtLocations.{column_on}
use Rattle.engine_state.proofs.Storing.{sized_but}

-- OTHERS STAND OPEN, in as much room

module _ (e : Engine) (k : Stack) where
  abbrev after : Engine
  after = record e { conditionals = k }

  pub conditions_stand : k.size ≡ e.conditionals.size → (sizes : Sizes) (book : Book) → Stands sizes e book → Stands sizes (record e { conditionals = k }) book
  conditions_stand size sizes book st = record {
    sound = record {
      sized = sized_but sizes e k e.naming size st.sound.sized;
      tied = st.sound.tied;
      bodies = st.sound.bodies;
    };
    idle = st.idle;
    readings = frames_kept e after book.work (record { readings = refl; lists = refl; call = refl }) st.readings;
    uncalled = st.uncalled;
  }

  -- one more is open
  module _ (number line : ℕ) (here : line ≡ e.input.pending.number) where
    abbrev begun : Stack
    begun = record { items = opened number line e.conditionals.items; size = e.conditionals.size }

    begins : k ≡ begun → (sizes : Sizes) (w : World) (book : Book) → length e.conditionals.items < e.conditionals.size → IsSized sizes e →
        Did sizes (state_of e book) (state_of after book) w w (ConditionOpened number e.input.pending.number ∷ [])
    begins is sizes w book room sized =
        let within : nat_le (length e.conditionals.items + 1) sizes.condition_stack_size ≡ true = grind (arith, nat_tests, sized.conditionals, room) in
        did_one sizes (ConditionOpened number e.input.pending.number) (state_of e book) (state_of after book) w w (rw within refl)
        (ap (λ (n : ℕ). record (state_of e book) { conditionals = opened number n e.conditionals.items }) (sym here) ∙ ap (λ (s : Stack). record (state_of e book) { conditionals = s.items }) (sym is))
        (quiet_here (ConditionOpened number e.input.pending.number) w tt)

    pub opened_did : (r : Result Unit Full) → OnOk r (k ≡ begun) → OnOk r (length e.conditionals.items < e.conditionals.size) →
        OnOk r ((sizes : Sizes) (w : World) (book : Book) → IsSized sizes e → Did sizes (state_of e book) (state_of (record e { conditionals = k }) book) w w (ConditionOpened number e.input.pending.number ∷ []))
    opened_did r is room = on_both r (λ is room sizes w book sized. begins is sizes w book room sized) is room

    pub opened_stands : (r : Result Unit Full) → OnOk r (k ≡ begun) → OnOk r ((sizes : Sizes) (book : Book) → Stands sizes e book → Stands sizes (record e { conditionals = k }) book)
    opened_stands (Ok x) is = conditions_stand (ap (λ (s : Stack). s.size) is)
    opened_stands (Err full) is = tt

  -- or has no room
  module _ (number : ℕ) where
    unopened : (full : Full) → full ≡ stack_full e.conditionals → e.conditionals.size ≤ length e.conditionals.items → k ≡ e.conditionals → (sizes : Sizes) (w : World) (book : Book) (more : List Move) → IsSized sizes e →
        Cuts sizes (state_of e book) after book w w (ConditionOpened number e.input.pending.number ∷ more) (broken.Full full)
    unopened full is past same sizes w book more sized =
        let beyond : nat_le (length e.conditionals.items + 1) sizes.condition_stack_size ≡ false = grind (arith, nat_tests, sized.conditionals, past) in
        full_cuts sizes (state_of e book) after book w (ConditionOpened number e.input.pending.number) more full (broken.Full full) refl
        (rw beyond (ap (λ (n : ℕ). Some (record (stack_full e.conditionals) { size = n })) (sym sized.conditionals) ∙ ap (λ (x : Full). Some x) (sym is)))
        (ap (λ (s : Stack). state_of (record e { conditionals = s }) book) (sym same))

    pub opened_cuts : (r : Result Unit Full) → IfErr r (λ full. full ≡ stack_full e.conditionals) → IfErr r (λ full. e.conditionals.size ≤ length e.conditionals.items) → IfErr r (λ full. k ≡ e.conditionals) →
        IfErr r (λ full. (sizes : Sizes) (w : World) (book : Book) (more : List Move) → IsSized sizes e → Cuts sizes (state_of e book) (record e { conditionals = k }) book w w (ConditionOpened number e.input.pending.number ∷ more) (broken.Full full))
    opened_cuts (Ok x) is past same = tt
    opened_cuts (Err full) is past same = unopened full is past same

    pub opened_same : (r : Result Unit Full) → IfErr r (λ full. k ≡ e.conditionals) → IfErr r (λ full. record e { conditionals = k } ≡ e)
    opened_same (Ok x) same = tt
    opened_same (Err full) same = ap (λ (s : Stack). record e { conditionals = s }) same

  -- the limit of one is set, and the innermost closed
  pub limited_did : (l : Limit) → k ≡ record { items = with_limit l e.conditionals.items; size = e.conditionals.size } → (sizes : Sizes) (w : World) (book : Book) →
      Did sizes (state_of e book) (state_of (record e { conditionals = k }) book) w w (LimitSet l ∷ [])
  limited_did l is sizes w book = did_one sizes (LimitSet l) (state_of e book) (state_of after book) w w refl (ap (λ (s : Stack). record (state_of e book) { conditionals = s.items }) (sym is)) (quiet_here (LimitSet l) w tt)

  pub closed_did : k ≡ record { items = drop 1 e.conditionals.items; size = e.conditionals.size } → (sizes : Sizes) (w : World) (book : Book) →
      Did sizes (state_of e book) (state_of (record e { conditionals = k }) book) w w (ConditionClosed ∷ [])
  closed_did is sizes w book = did_one sizes ConditionClosed (state_of e book) (state_of after book) w w refl (ap (λ (s : Stack). record (state_of e book) { conditionals = s.items }) (sym is)) (quiet_here ConditionClosed w tt)

-- THE LINES OF `\end`

left_join : (style : Style) (cs ds : List Conditional) → conditionals_left style (cs ++ ds) ≡ conditionals_left style cs ++ conditionals_left style ds
left_join style [] ds = refl
left_join style (c ∷ cs) ds = ap (λ (ms : List Move). conditionals_left style (c ∷ []) ++ ms) (left_join style cs ds)

-- the first of them, up to this one
take_one : (cs : List Conditional) (n : ℕ) (c : Conditional) → slice_get cs n ≡ Some c → take (n + 1) cs ≡ take n cs ++ c ∷ []
take_one cs n c is = take_more cs n c (slice_get_within cs n c is) ∙ ap (λ (d : Conditional). take n cs ++ d ∷ []) (get_or_from_slice_get cs n c c is)

-- those in front of it, it, and those behind
parts : (style : Style) (cs : List Conditional) (n : ℕ) (c : Conditional) (more : List Move) → slice_get cs n ≡ Some c →
    conditionals_left style cs ++ more ≡ conditionals_left style (take n cs) ++ (conditionals_left style (c ∷ []) ++ (conditionals_left style (drop (n + 1) cs) ++ more))
parts style cs n c more is =
    ap (λ (ds : List Conditional). conditionals_left style ds ++ more) (sym (take-append-drop (n + 1) cs) ∙ ap (λ (ds : List Conditional). ds ++ drop (n + 1) cs) (take_one cs n c is) ∙ append_assoc (take n cs) (c ∷ []) (drop (n + 1) cs))
    ∙ ap (λ (ms : List Move). ms ++ more) (left_join style (take n cs) (c ∷ drop (n + 1) cs))
    ∙ append_assoc (conditionals_left style (take n cs)) (conditionals_left style (c ∷ drop (n + 1) cs)) more

-- the lines of the first n are written
pub record Left (e e1 : Engine) (s s1 : SinkTold) (n : ℕ) : Type 0 where
  pub only : OnlyColumn e e1
  pub did : (sizes : Sizes) (f : FilesTold) (book : Book) → Did sizes (state_of e book) (state_of e1 book) (world_of f s e) (world_of f s1 e1) (conditionals_left (own_style e) (take n e.conditionals.items))

pub none_left : (e : Engine) (s : SinkTold) → Left e e s s 0
none_left e s = record { only = record { same = refl }; did = λ sizes f book. did_none sizes (state_of e book) (world_of f s e) }

module _ (e e1 : Engine) (s s1 : SinkTold) (n : ℕ) (h : Left e e1 s s1 n) where
  there : (o : Option Conditional) → slice_get e1.conditionals.items n ≡ o → slice_get e.conditionals.items n ≡ o
  there o is = ap (λ (x : Engine). slice_get x.conditionals.items n) (sym h.only.same) ∙ is

  style : own_style e1 ≡ own_style e
  style = ap (λ (x : Engine). own_style x) h.only.same

  module _ (e2 : Engine) (s2 : SinkTold) (c : Conditional) (is : slice_get e1.conditionals.items n ≡ Some c) where
    -- and one line more
    pub one_left : OnlyColumn e1 e2 → ((sizes : Sizes) (f : FilesTold) (book : Book) → Did sizes (state_of e1 book) (state_of e2 book) (world_of f s1 e1) (world_of f s2 e2) (conditionals_left (own_style e1) (c ∷ []))) → Left e e2 s s2 (n + 1)
    one_left only did = record {
      only = column_on e e1 e2 h.only only;
      did = λ sizes f book. subst (λ (ms : List Move). Did sizes (state_of e book) (state_of e2 book) (world_of f s e) (world_of f s2 e2) ms) (sym (ap (conditionals_left (own_style e)) (take_one e.conditionals.items n c (there (Some c) is)) ∙ left_join (own_style e) (take n e.conditionals.items) (c ∷ [])))
          (did_join sizes _ _ _ _ _ _ (conditionals_left (own_style e) (take n e.conditionals.items)) (conditionals_left (own_style e) (c ∷ [])) (h.did sizes f book)
          (subst (λ (x : Style). Did sizes (state_of e1 book) (state_of e2 book) (world_of f s1 e1) (world_of f s2 e2) (conditionals_left x (c ∷ []))) style (did sizes f book)));
    }

    -- or one is cut off
    pub one_cut : (b : Broken) → ((sizes : Sizes) (f : FilesTold) (book : Book) (more : List Move) → Cuts sizes (state_of e1 book) e2 book (world_of f s1 e1) (world_of f s2 e2) (conditionals_left (own_style e1) (c ∷ []) ++ more) b) →
        (sizes : Sizes) (f : FilesTold) (book : Book) (more : List Move) → Cuts sizes (state_of e book) e2 book (world_of f s e) (world_of f s2 e2) (conditionals_left (own_style e) e.conditionals.items ++ more) b
    one_cut b cut sizes f book more =
        let rest : List Move = conditionals_left (own_style e) (drop (n + 1) e.conditionals.items) ++ more in
        cuts_by sizes (state_of e book) e2 book _ _ _ _ b (parts (own_style e) e.conditionals.items n c more (there (Some c) is))
        (later_cuts sizes (state_of e book) (state_of e1 book) e2 book _ _ _ (conditionals_left (own_style e) (take n e.conditionals.items)) (conditionals_left (own_style e) (c ∷ []) ++ rest) b (h.did sizes f book)
        (subst (λ (x : Style). Cuts sizes (state_of e1 book) e2 book (world_of f s1 e1) (world_of f s2 e2) (conditionals_left x (c ∷ []) ++ rest) b) style (cut sizes f book rest)))

  -- all lines are written
  pub past_left : length e.conditionals.items ≤ n → (sizes : Sizes) (f : FilesTold) (book : Book) →
      Did sizes (state_of e book) (state_of e1 book) (world_of f s e) (world_of f s1 e1) (conditionals_left (own_style e) e.conditionals.items)
  past_left past sizes f book =
      subst (λ (cs : List Conditional). Did sizes (state_of e book) (state_of e1 book) (world_of f s e) (world_of f s1 e1) (conditionals_left (own_style e) cs)) (take_all n e.conditionals.items past) (h.did sizes f book)

-- WHERE THE MACHINE STOPS OF ITSELF

-- the lines of `\end` behind its first
module _ (sizes : Sizes) (e e1 e2 : Engine) (book : Book) (w w1 w2 : World) (only : OnlyColumn e e1) (first : Did sizes (state_of e book) (state_of e1 book) w w1 (Written Transcript (last_bytes (page_of e book) End) ∷ [])) where
  abbrev left_at : Engine → List Move
  left_at x = conditionals_left (own_style x) x.conditionals.items

  left_same : left_at e ≡ left_at e1
  left_same = ap left_at (sym only.same)

  pub end_did : Did sizes (state_of e1 book) (state_of e2 book) w1 w2 (left_at e1) → Did sizes (state_of e book) (state_of e2 book) w w2 (last_written (page_of e book) End)
  end_did d = did_join sizes _ _ _ w w1 w2 (Written Transcript (last_bytes (page_of e book) End) ∷ []) (left_at e) first (subst (λ (ms : List Move). Did sizes (state_of e1 book) (state_of e2 book) w1 w2 ms) (sym left_same) d)

  pub end_cuts : (b : Broken) (more : List Move) → Cuts sizes (state_of e1 book) e2 book w1 w2 (left_at e1 ++ more) b → Cuts sizes (state_of e book) e2 book w w2 (last_written (page_of e book) End ++ more) b
  end_cuts b more h =
      later_cuts sizes (state_of e book) (state_of e1 book) e2 book w w1 w2 (Written Transcript (last_bytes (page_of e book) End) ∷ []) (left_at e ++ more) b first
      (cuts_by sizes (state_of e1 book) e2 book w1 w2 _ _ b (ap (λ (ms : List Move). ms ++ more) left_same) h)

-- THE COMPARISON OF `\ifx`

macro_is : (lists : List (List Token)) (m : Meaning (Option ℕ)) → macro_text lists m ≡ meaning_tokens (shared_tokens lists) m
macro_is lists (means.Macro long outer (Some id)) = refl
macro_is lists (means.Macro long outer None) = refl
macro_is lists means.Undefined = refl
macro_is lists means.RelaxMarked = refl
macro_is lists (means.Char category code) = refl
macro_is lists (means.CharGiven code) = refl
macro_is lists (means.MathGiven code) = refl
macro_is lists (means.Register kind number) = refl
macro_is lists (means.Prim number) = refl

module _ (sizes : Sizes) (e : Engine) (book : Book) (sound : IsSound sizes e book.number book.all_lists) where
  meant : (x : Seen) → list_to_let e.input.lists e.input.groups.now.meanings x ≡ tokens_meant (page_of e book) x
  meant x = macro_is e.input.lists (meaning_to_let e.input.groups.now.meanings x) ∙ sym (tokens_let book.number book.all_lists e.input.groups (all_puts e.input.pending) e.input.lists sound.tied x)

  -- by the lists of the memory it is by those of the machine
  pub same_as : (x y : Seen) (listed result : Bool) → listed ≡ are_same (list_to_let e.input.lists e.input.groups.now.meanings x) (list_to_let e.input.lists e.input.groups.now.meanings y) →
      result ≡ same_meaning x.meaning y.meaning listed → result ≡ same_meaning x.meaning y.meaning (are_same (tokens_meant (page_of e book) x) (tokens_meant (page_of e book) y))
  same_as x y listed result is same =
      same ∙ ap (same_meaning x.meaning y.meaning) (is ∙ ap (λ (ts : List Token). are_same ts (list_to_let e.input.lists e.input.groups.now.meanings y)) (meant x) ∙ ap (are_same (tokens_meant (page_of e book) x)) (meant y))

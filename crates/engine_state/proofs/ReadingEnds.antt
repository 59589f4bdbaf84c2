-- A reading that ends.
use Rattle.std.proofs.Common.{◌≡◌, ℕ, Bool, true, false, List, [], ◌∷◌, ◌++◌, drop, refl, sym, ap, ◌∙◌, true≢false, None}
use Rattle.tex_defs.specs.declared.Sizes.{Sizes}
use Rattle.tex_defs.specs.declared.Token.{Token}
use Rattle.rows.specs.declared.words.Value.{Value}
use Rattle.rows.specs.declared.words.Value.TheVariants as value
use Rattle.rows.specs.Readings.{Val}
use Rattle.plain_readings.specs.Readings.{Reading, lists, fed_with}
use Rattle.plain_machine.specs.States.{Closed, Ended, made, beneath, lists_of_top, held_with}
use Rattle.plain_machine.specs.Plan.{value_tokens}
use Rattle.input_state.specs.Stored.{KeepsShared, gathered}
use Rattle.reading_frames.specs.Views.{has_no_token, top_list}
use Rattle.reading_frames.specs.Resumes.{listed_count, listed_lists, with_list}
use Rattle.reading_frames.specs.Stack.{Stack, innermost_count, lists_beneath}
use Rattle.reading_frames.specs.Frames as frames
use Rattle.reading_frames.specs.Frames.{AreShallow}
use Rattle.reading_frames.specs.declared.frame.Frame.{Frame}
use Rattle.engine_state.specs.declared.engine.Engine.{Engine}
use Rattle.engine_state.specs.Book.{Book, with_work}
use Rattle.engine_state.specs.Stands.{Stands, SameBut, state_of}
use Rattle.engine_state.proofs.FramesHeld.{held_top, held_beneath, lists_are, has_top, stands_gathered, stands_new, state_new, framed_with, same_with}

pub left_list : (listed : Bool) (n : ℕ) (held : List (List Token)) → listed_count listed ≡ n → drop (listed_count listed) held ≡ drop n held
left_list listed n held e = ap (λ (m : ℕ). drop m held) e

-- WITHOUT A VALUE

module _ (sizes : Sizes) (e e' : Engine) (book : Book) (r : Reading) (rs : List Reading) (fs : List Frame) (same : SameBut e e') (fs_are : e'.readings.frames ≡ fs) (held_are : e'.input.builds ≡ lists_beneath e.readings.frames e.input.builds)
    (stand : (held : List (List Token)) (work : List Reading) → frames.AreFramesOf None e.readings.frames held work → frames.AreFramesOf None fs (lists_beneath e.readings.frames held) (drop 1 work))
    (shallow : (held : List (List Token)) → AreShallow e.readings.frames held → AreShallow fs (lists_beneath e.readings.frames held)) (st : Stands sizes e (with_work (r ∷ rs) book)) where
  pub closed_stands : Stands sizes e' (with_work rs book)
  closed_stands = stands_new sizes e e' (with_work (r ∷ rs) book) rs fs (lists_beneath e.readings.frames e.input.builds) same fs_are held_are st
      (stand e.input.builds (r ∷ rs) st.readings.frames) (shallow e.input.builds st.readings.shallow)

  pub closed_state : e'.last ≡ e.last → made Closed (state_of e (with_work (r ∷ rs) book)) ≡ state_of e' (with_work rs book)
  closed_state last =
      state_new e e' (with_work (r ∷ rs) book) rs (beneath (r ∷ rs) (gathered e.input)) same last
      (stands_gathered sizes e' (with_work rs book) closed_stands ∙ held_are ∙ sym (held_beneath e.readings.frames e.input.builds (r ∷ rs) st.readings.frames)
      ∙ ap (λ (l : List (List Token)). beneath (r ∷ rs) l) (sym (stands_gathered sizes e (with_work (r ∷ rs) book) st)))

-- WITH A VALUE

whole_top : (held : List (List Token)) → (held ≡ [] → ⊥) → top_list held ∷ drop 1 held ≡ held
whole_top [] some = absurd (some refl)
whole_top (list ∷ held) some = refl

-- a list that is kept is the reading's own
kept_own : (v : Value) (listed empty : Bool) (held : List (List Token)) → empty ≡ has_no_token (value_tokens v (listed_lists listed held)) → empty ≡ false → (listed ≡ true) × (value_tokens v (listed_lists listed held) ≡ top_list held)
kept_own value.List true empty held is some = (refl, refl)
kept_own value.List false empty held is some = absurd (true≢false (sym is ∙ some))
kept_own (value.Plain d) listed empty held is some = absurd (true≢false (sym is ∙ some))

-- what is left: the list on top goes, where it was the reading's own and isn't kept
abbrev pub left_behind : (listed kept : Bool) → List (List Token) → List (List Token)
left_behind true false held = drop 1 held
left_behind listed kept held = held

pub left_true : (listed kept : Bool) (held : List (List Token)) → listed ≡ true → kept ≡ false → left_behind listed kept held ≡ drop 1 held
left_true true false held l k = refl
left_true false kept held l k = absurd (true≢false (sym l))
left_true true true held l k = absurd (true≢false k)

pub left_false : (listed kept : Bool) (held : List (List Token)) → (listed ≡ true → kept ≡ false → ⊥) → left_behind listed kept held ≡ held
left_false true false held h = absurd (h refl refl)
left_false true true held h = refl
left_false false kept held h = refl

left_is : (v : Value) (listed kept empty : Bool) (n : ℕ) (held : List (List Token)) → listed_count listed ≡ n → (kept ≡ true → empty ≡ false) → empty ≡ has_no_token (value_tokens v (listed_lists listed held)) → (n ≡ 1 → held ≡ [] → ⊥) →
    left_behind listed kept held ≡ with_list kept (value_tokens v (listed_lists listed held)) (drop n held)
left_is v true false empty n held count keeps is some = ap (λ (m : ℕ). drop m held) count
left_is v false false empty n held count keeps is some = ap (λ (m : ℕ). drop m held) count
left_is v false true empty n held count keeps is some = absurd (true≢false (sym (kept_own v false empty held is (keeps refl)).0))
left_is v true true empty n held count keeps is some =
    let own = (kept_own v true empty held is (keeps refl)).1 in
    sym (ap (λ (ts : List Token). ts ∷ drop n held) own ∙ (ap (λ (m : ℕ). top_list held ∷ drop m held) (sym count) ∙ whole_top held (some (sym count))))

module _ (sizes : Sizes) (e e' : Engine) (book : Book) (r : Reading) (rs : List Reading) (v : Value) (listed kept empty : Bool) (fs1 fs2 : List Frame) (same : SameBut e e') (fs_are : e'.readings.frames ≡ fs2)
    (held_are : e'.input.builds ≡ left_behind listed kept e.input.builds) (count : listed_count listed ≡ innermost_count e.readings.frames) (keeps : kept ≡ true → empty ≡ false)
    (is : empty ≡ has_no_token (value_tokens v (listed_lists listed e.input.builds)))
    (stand : (held : List (List Token)) (work : List Reading) → frames.AreFramesOf None e.readings.frames held work → frames.AreFramesOf None fs1 (lists_beneath e.readings.frames held) (drop 1 work))
    (shallow : (held : List (List Token)) → AreShallow e.readings.frames held → AreShallow fs1 (lists_beneath e.readings.frames held))
    (valued : (ts : List Token) → empty ≡ has_no_token ts → (held : List (List Token)) (work : List Reading) → frames.AreFramesOf None fs1 held work → frames.AreFramesOf None fs2 (with_list kept ts held) (fed_with (Val v ts) work))
    (still : (ts : List Token) (held : List (List Token)) → AreShallow fs1 held → AreShallow fs2 (with_list kept ts held))
    (others : (ts : List Token) (held : List (List Token)) → lists_beneath fs2 (with_list kept ts held) ≡ lists_beneath fs1 held)
    (st : Stands sizes e (with_work (r ∷ rs) book)) where
  own : lists r.kind r.fed ≡ listed_lists listed e.input.builds
  own = lists_are e.readings.frames e.input.builds r rs listed count st.readings.frames

  abbrev tokens : List Token
  tokens = value_tokens v (lists r.kind r.fed)

  tokens_are : tokens ≡ value_tokens v (listed_lists listed e.input.builds)
  tokens_are = ap (value_tokens v) own

  empty_is : empty ≡ has_no_token tokens
  empty_is = is ∙ sym (ap has_no_token tokens_are)

  abbrev under : List (List Token)
  under = lists_beneath e.readings.frames e.input.builds

  behind : e'.input.builds ≡ with_list kept tokens under
  behind = held_are ∙ (left_is v listed kept empty (innermost_count e.readings.frames) e.input.builds count keeps is (has_top e.readings.frames e.input.builds (r ∷ rs) st.readings.frames)
      ∙ ap (λ (ts : List Token). with_list kept ts under) (sym tokens_are))

  left : frames.AreFramesOf None fs1 under rs
  left = stand e.input.builds (r ∷ rs) st.readings.frames

  fed : frames.AreFramesOf None fs2 (with_list kept tokens under) (fed_with (Val v tokens) rs)
  fed = valued tokens empty_is under rs left

  pub ended_stands : Stands sizes e' (with_work (fed_with (Val v (value_tokens v (lists r.kind r.fed))) rs) book)
  ended_stands = stands_new sizes e e' (with_work (r ∷ rs) book) (fed_with (Val v tokens) rs) fs2 (with_list kept tokens under) same fs_are behind st fed (still tokens under (shallow e.input.builds st.readings.shallow))

  under_is : beneath (r ∷ rs) (gathered e.input) ≡ under
  under_is = ap (λ (l : List (List Token)). beneath (r ∷ rs) l) (stands_gathered sizes e (with_work (r ∷ rs) book) st) ∙ held_beneath e.readings.frames e.input.builds (r ∷ rs) st.readings.frames

  whole : held_with (fed_with (Val v tokens) rs) rs (beneath (r ∷ rs) (gathered e.input)) ≡ with_list kept tokens under
  whole =
      ap (λ (l : List (List Token)). held_with (fed_with (Val v tokens) rs) rs l) under_is
      ∙ (ap (λ (l : List (List Token)). lists_of_top (fed_with (Val v tokens) rs) ++ l) (held_beneath fs1 under rs left ∙ sym (others tokens under))
      ∙ held_top fs2 (with_list kept tokens under) (fed_with (Val v tokens) rs) fed)

  pub ended_state : e'.last ≡ e.last → made (Ended v (value_tokens v (lists r.kind r.fed))) (state_of e (with_work (r ∷ rs) book)) ≡ state_of e' (with_work (fed_with (Val v (value_tokens v (lists r.kind r.fed))) rs) book)
  ended_state last =
      state_new e e' (with_work (r ∷ rs) book) (fed_with (Val v tokens) rs) (held_with (fed_with (Val v tokens) rs) rs (beneath (r ∷ rs) (gathered e.input))) same last
      (stands_gathered sizes e' (with_work (fed_with (Val v tokens) rs) book) ended_stands ∙ behind ∙ sym whole)

-- BY WHAT THE CALLS SAY

pub closes : (sizes : Sizes) (e e' : Engine) (book : Book) (r : Reading) (rs : List Reading) (stack : Stack) (listed : Bool) (held : List (List Token)) → e' ≡ framed_with e stack held e'.input.lists → stack.size ≡ e.readings.size → KeepsShared e.input e'.input →
    listed_count listed ≡ innermost_count e.readings.frames → held ≡ drop (listed_count listed) e.input.builds →
    ((held : List (List Token)) (work : List Reading) → frames.AreFramesOf None e.readings.frames held work → frames.AreFramesOf None stack.frames (lists_beneath e.readings.frames held) (drop 1 work)) →
    ((held : List (List Token)) → AreShallow e.readings.frames held → AreShallow stack.frames (lists_beneath e.readings.frames held)) → Stands sizes e (with_work (r ∷ rs) book) →
    Stands sizes e' (with_work rs book) × (made Closed (state_of e (with_work (r ∷ rs) book)) ≡ state_of e' (with_work rs book))
closes sizes e e' book r rs stack listed held is size kept count left stand shallow st =
    let same = same_with e e' stack held is size kept in
    let fs_are : e'.readings.frames ≡ stack.frames = ap (λ (x : Engine). x.readings.frames) is in
    let held_are : e'.input.builds ≡ lists_beneath e.readings.frames e.input.builds = ap (λ (x : Engine). x.input.builds) is ∙ (left ∙ left_list listed (innermost_count e.readings.frames) e.input.builds count) in
    (closed_stands sizes e e' book r rs stack.frames same fs_are held_are stand shallow st, closed_state sizes e e' book r rs stack.frames same fs_are held_are stand shallow st (ap (λ (x : Engine). x.last) is))

pub ends : (sizes : Sizes) (e e' : Engine) (book : Book) (r : Reading) (rs : List Reading) (v : Value) (listed kept empty : Bool) (fs1 : List Frame) (stack : Stack) (held : List (List Token)) → e' ≡ framed_with e stack held e'.input.lists → stack.size ≡ e.readings.size → KeepsShared e.input e'.input →
    held ≡ left_behind listed kept e.input.builds → listed_count listed ≡ innermost_count e.readings.frames → (kept ≡ true → empty ≡ false) → empty ≡ has_no_token (value_tokens v (listed_lists listed e.input.builds)) →
    ((held : List (List Token)) (work : List Reading) → frames.AreFramesOf None e.readings.frames held work → frames.AreFramesOf None fs1 (lists_beneath e.readings.frames held) (drop 1 work)) →
    ((held : List (List Token)) → AreShallow e.readings.frames held → AreShallow fs1 (lists_beneath e.readings.frames held)) →
    ((ts : List Token) → empty ≡ has_no_token ts → (held : List (List Token)) (work : List Reading) → frames.AreFramesOf None fs1 held work → frames.AreFramesOf None stack.frames (with_list kept ts held) (fed_with (Val v ts) work)) →
    ((ts : List Token) (held : List (List Token)) → AreShallow fs1 held → AreShallow stack.frames (with_list kept ts held)) →
    ((ts : List Token) (held : List (List Token)) → lists_beneath stack.frames (with_list kept ts held) ≡ lists_beneath fs1 held) →
    Stands sizes e (with_work (r ∷ rs) book) →
    Stands sizes e' (with_work (fed_with (Val v (value_tokens v (lists r.kind r.fed))) rs) book) × (made (Ended v (value_tokens v (lists r.kind r.fed))) (state_of e (with_work (r ∷ rs) book)) ≡ state_of e' (with_work (fed_with (Val v (value_tokens v (lists r.kind r.fed))) rs) book))
ends sizes e e' book r rs v listed kept empty fs1 stack held is size all_lists left count keeps em stand shallow valued still others st =
    let same = same_with e e' stack held is size all_lists in
    let fs_are : e'.readings.frames ≡ stack.frames = ap (λ (x : Engine). x.readings.frames) is in
    let held_are : e'.input.builds ≡ left_behind listed kept e.input.builds = ap (λ (x : Engine). x.input.builds) is ∙ left in (
      ended_stands sizes e e' book r rs v listed kept empty fs1 stack.frames same fs_are held_are count keeps em stand shallow valued still others st,
      ended_state sizes e e' book r rs v listed kept empty fs1 stack.frames same fs_are held_are count keeps em stand shallow valued still others st (ap (λ (x : Engine). x.last) is),
    )

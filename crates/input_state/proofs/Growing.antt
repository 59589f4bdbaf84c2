-- What a token of a call takes of main memory.
use Rattle.std.proofs.Common.{◌≡◌, ℕ, zero, suc, ◌+◌, ◌<◌, ◌≤◌, List, [], ◌∷◌, ◌++◌, length, drop, Bool, true, false, Option, None, Some, refl, sym, ap, ap₂, ◌∙◌, subst, arith}
use Rattle.std.specs.Prelude.{if◌then◌else◌, option_to_list, option_map, unwrap_or}
use Rattle.std.proofs.lemmas.List.{drop_at, drop_all, length-drop}
use Rattle.std.proofs.lemmas.List.Sums.{sum_by-cons, sum_by-append}
use Rattle.tex_defs.specs.declared.Token.{Token}
use Rattle.tex_defs.specs.declared.Name.{Name}
use Rattle.plain_tokens.specs.Puts.{Put, list_of_tokens}
use Rattle.plain_tokens.specs.Tables.{list_words, lists_words}
use Rattle.equivalents.specs.Holding.{lists_held, shared_words}
use Rattle.plain_tokens.specs.Arguments as arg
use Rattle.plain_tokens.specs.declared.par_mode.ParMode.{ParMode}
use Rattle.plain_tokens.specs.Arguments.{Answer, Mismatch, Tok, arguments, arguments_in, work_in, behind, call, start_of, places_of, case_at, same, begins_with_place}
use Rattle.macro_call.specs.Stages.{Stage, kept_in, read_in}
use Rattle.macro_call.specs.Growths.{target_by}
use Rattle.macro_call.specs.PlainScans.{Scan, scan_work, resume_scan, resume_at, places_behind, first_scan, first_by}
use Rattle.macro_call.proofs.ArgumentRuns.{search_at, found_after}
use Rattle.input_state.specs.HeldLists.{HeldLists, puts_held, words_held}
use Rattle.input_state.specs.Macros.{list_at, is_shared, KeepsLists}
use Rattle.input_state.specs.Calls.{begun_lists}
use Rattle.input_state.specs.Callings.{Calling, NotCalling, Gathering, Stopped, Gathered, scan_asks, ended_asks, last_first, scan_lists, call_lists}
use Rattle.macro_call.specs.declared.ask.CallAsk.{CallAsk}
use Rattle.input_state.specs.CallFeeds.{Comes, IsAnswer, scan_growth}

-- MACROS THAT KEEP THEIR LISTS

same_words : (b : Bool) (ts us : List Token) → (b ≡ true → ts ≡ us) → (if b then list_words ts else 0) ≡ (if b then list_words us else 0)
same_words true ts us same = ap list_words (same refl)
same_words false ts us same = refl

pub macros_same : (n : ℕ) (ms : List ℕ) (ps : List Put) (new old : List (List Token)) → length new ≡ length old → ((h : ℕ) → is_shared (n + h) ms ps ≡ true → list_at new h ≡ list_at old h) → shared_words n ms ps new ≡ shared_words n ms ps old
macros_same n ms ps [] [] l same = refl
macros_same n ms ps [] (u ∷ us) l same = absurd (omega (arith, l))
macros_same n ms ps (t ∷ ts) [] l same = absurd (omega (arith, l))
macros_same n ms ps (t ∷ ts) (u ∷ us) l same =
    let zero_more : n + 0 ≡ n = omega arith in
    let here = same_words (is_shared n ms ps) t u (λ is. same 0 (ap (λ (k : ℕ). is_shared k ms ps) zero_more ∙ is)) in
    let next : (h : ℕ) → n + suc h ≡ suc n + h = λ h. omega arith in
    let rest = macros_same (suc n) ms ps ts us (omega (arith, l)) (λ h is. same (suc h) (ap (λ (k : ℕ). is_shared k ms ps) (next h) ∙ is)) in
    omega (arith, here, rest)

-- another call, and its lists
pub words_recalled : (v : HeldLists) (c : Calling) (lists : List (List Token)) → KeepsLists (lists_held v.groups) (puts_held v) v.lists lists → length lists ≡ length v.lists →
    words_held (record v { call = c; lists = lists }) + lists_words (call_lists v.call) ≡ words_held v + lists_words (call_lists c)
words_recalled v c lists keeps l =
    let start : (h : ℕ) → 0 + h ≡ h = λ h. omega arith in
    let all_lists = macros_same 0 (lists_held v.groups) (puts_held v) lists v.lists l (λ h is. keeps.tokens h (sym (ap (λ (k : ℕ). is_shared k (lists_held v.groups) (puts_held v)) (start h)) ∙ is)) in
    omega (arith, all_lists, sum_by-append list_words (call_lists c) v.builds, sum_by-append list_words (call_lists v.call) v.builds)

-- ARGUMENTS

words_before : (args others : List (List Token)) → lists_words (last_first args others) ≡ lists_words (last_first args []) + lists_words others
words_before [] others = omega arith
words_before (a ∷ args) others =
    omega (arith, words_before args (list_of_tokens a ++ others), words_before args (list_of_tokens a ++ []), sum_by-append list_words (list_of_tokens a) others, sum_by-append list_words (list_of_tokens a) [])

last_first-append : (args : List (List Token)) (a : List Token) (others : List (List Token)) → last_first (args ++ a ∷ []) others ≡ list_of_tokens a ++ last_first args others
last_first-append [] a others = refl
last_first-append (b ∷ args) a others = last_first-append args a (list_of_tokens b ++ others)

one_more : (args : List (List Token)) (a : List Token) → lists_words (last_first (args ++ a ∷ []) []) ≡ lists_words (list_of_tokens a) + lists_words (last_first args [])
one_more args a = ap lists_words (last_first-append args a []) ∙ sum_by-append list_words (list_of_tokens a) (last_first args [])

own_words : (ts : List Token) → 0 < length ts → lists_words (list_of_tokens ts) ≡ 1 + length ts
own_words [] some = absurd (omega (arith, some))
own_words (t ∷ ts) some = omega (arith, sum_by-cons list_words (t ∷ ts) [])

-- A CALL BEGINS

begun_by : (b : Bool) (mode : ParMode) → scan_lists (first_by b mode) ≡ (if b then [] ∷ [] else [])
begun_by true mode = refl
begun_by false mode = refl

pub begun_words : (text : List Token) (mode : ParMode) → scan_lists (first_scan text mode) ≡ begun_lists text
begun_words text mode = begun_by (begins_with_place text) mode

-- A TOKEN

-- the answer has the arguments so far and a list in work, or one argument more, or it has neither
pub data Grown (args : List (List Token)) (after : Answer) : Type 0 where
  Works : (ts : List Token) → arguments_in after ≡ args → work_in after ≡ Some ts → Grown args after
  Adds : (a : List Token) → arguments_in after ≡ args ++ a ∷ [] → Grown args after

whole : (mode : ParMode) (args places : List (List Token)) → arguments_in (arguments mode args places []) ≡ args
whole mode args [] = refl
whole mode args (ds ∷ places) = refl

grown_by_case : (ds : List Token) (mode : ParMode) (kept t : List Token) (x : Token) (args places : List (List Token)) (c : arg.Case) → Grown args (behind args places (found_after ds mode kept t x [] c))
grown_by_case ds mode kept t x args places (arg.Argument a) = Adds a (whole mode (args ++ a ∷ []) places)
grown_by_case ds mode kept t x args places arg.ExtraBrace = Works _ refl refl
grown_by_case ds mode kept t x args places arg.ParEnded = Works _ refl refl
grown_by_case ds mode kept t x args places arg.Skipped = Works _ refl refl
grown_by_case ds mode kept t x args places arg.Going = Works _ refl refl

pub grown_in_place : (text : List Token) (scan : Scan) (s : Stage) (x : Token) → scan.present ≡ Some s → Grown scan.args (resume_scan text scan (Tok x ∷ []))
grown_in_place text scan s x is =
    let rest = drop scan.at text in
    let ds = start_of rest in
    subst (Grown scan.args)
    (sym (ap (λ (o : Option Stage). resume_at rest scan o (Tok x ∷ [])) is ∙ ap (behind scan.args (places_behind scan.args rest)) (search_at ds scan.braced scan.mode (kept_in s) (read_in ds s) x [] (case_at ds scan.mode (kept_in s) (read_in ds s) x) refl)))
    (grown_by_case ds scan.mode (kept_in s) (read_in ds s) x scan.args (places_behind scan.args rest) (case_at ds scan.mode (kept_in s) (read_in ds s) x))

-- in front of the first place nothing goes into a list
start_more : (mode : ParMode) (ds : List Token) (places : List (List Token)) → target_by (arguments_in (call mode ds places [])) (work_in (call mode ds places [])) ≡ []
start_more mode [] [] = refl
start_more mode [] (p ∷ places) = refl
start_more mode (d ∷ ds) places = refl

start_by : (b : Bool) (mode : ParMode) (ds : List Token) (places : List (List Token)) → target_by (arguments_in (if b then call mode ds places [] else Mismatch)) (work_in (if b then call mode ds places [] else Mismatch)) ≡ []
start_by true mode ds places = start_more mode ds places
start_by false mode ds places = refl

start_target : (mode : ParMode) (ds : List Token) (places : List (List Token)) (x : Token) → 0 < length ds → target_by (arguments_in (call mode ds places (Tok x ∷ []))) (work_in (call mode ds places (Tok x ∷ []))) ≡ []
start_target mode [] places x some = absurd (omega (arith, some))
start_target mode (d ∷ ds) places x some = start_by (same x d) mode ds places

scan_words : (scan : Scan) → lists_words (scan_lists scan) ≡ lists_words (option_to_list (scan_work scan)) + lists_words (last_first scan.args [])
scan_words scan = sum_by-append list_words (option_to_list (scan_work scan)) (last_first scan.args [])

work_words : (o : Option (List Token)) (ts : List Token) → o ≡ Some ts → lists_words (option_to_list o) ≡ 1 + length ts
work_words o ts is = ap (λ (p : Option (List Token)). lists_words (option_to_list p)) is ∙ omega (arith, sum_by-cons list_words ts [])

-- what the lists of a call take then
pub stood_words : (text : List Token) (t : Token) (answer : CallAsk) (scan next : Scan) → IsAnswer text t answer scan next →
    lists_words (scan_lists next) ≡ lists_words (option_to_list (work_in (resume_scan text scan (Tok t ∷ [])))) + lists_words (last_first (arguments_in (resume_scan text scan (Tok t ∷ []))) [])
stood_words text t answer scan next is =
    omega (arith, scan_words next, ap (λ (o : Option (List Token)). lists_words (option_to_list o)) is.work, ap (λ (us : List (List Token)). lists_words (last_first us [])) is.args)

pub come_words : (text : List Token) (t : Token) (name : Name) (scan : Scan) (new : Calling) → Comes text t name scan new →
    lists_words (call_lists new) ≡ lists_words (option_to_list (work_in (resume_scan text scan (Tok t ∷ [])))) + lists_words (last_first (arguments_in (resume_scan text scan (Tok t ∷ []))) [])
come_words text t name scan NotCalling is = absurd is
come_words text t name scan (Gathering n next) is = stood_words text t (scan_asks next) scan next is.1.stands
come_words text t name scan (Stopped n why next) is = stood_words text t (ended_asks why) scan next is.1.stands
come_words text t name scan (Gathered n args) is =
    omega (arith, ap (λ (a : Answer). lists_words (option_to_list (work_in a))) is.1, ap (λ (a : Answer). lists_words (last_first (arguments_in a) [])) is.1)

-- a list that becomes this one, and takes some words more, or none
drop_words : (n rest size : ℕ) (ts : List Token) → rest + (1 + length ts) ≤ size → rest + (1 + n) ≤ size → rest + (1 + n) + length (drop n ts) ≤ size
drop_words n rest size ts now was = omega (arith, now, was, length-drop n ts)

none_dropped : (n : ℕ) → drop {A = Token} n [] ≡ []
none_dropped zero = refl
none_dropped (suc n) = refl

-- an argument that is whole
argument_words : (n rest size : ℕ) (a : List Token) → rest + lists_words (list_of_tokens a) ≤ size → rest + (1 + n) ≤ size → rest + (1 + n) + length (drop n a) ≤ size
argument_words n rest size [] now was = omega (arith, was, ap length (none_dropped n))
argument_words n rest size (t ∷ ts) now was = drop_words n rest size (t ∷ ts) (omega (arith, now, own_words (t ∷ ts) (omega arith))) was

module _ (text : List Token) (t : Token) (name : Name) (scan : Scan) (new : Calling) (comes : Comes text t name scan new) (args : scan.args ≡ arguments_in (resume_scan text scan [])) (work : scan_work scan ≡ work_in (resume_scan text scan [])) (w size : ℕ) (was : w + lists_words (scan_lists scan) ≤ size) (now : w + lists_words (call_lists new) ≤ size) where
  in_all : scan_growth text t scan ≡ drop (length (unwrap_or (scan_work scan) [])) (target_by (drop (length scan.args) (arguments_in (resume_scan text scan (Tok t ∷ [])))) (work_in (resume_scan text scan (Tok t ∷ []))))
  in_all =
      ap₂ (λ (o : Option (List Token)) (us : List (List Token)). drop (length (unwrap_or o [])) (target_by (drop (length us) (arguments_in (resume_scan text scan (Tok t ∷ [])))) (work_in (resume_scan text scan (Tok t ∷ []))))) (sym work) (sym args)

  none_left : (us : List (List Token)) → drop (length us) us ≡ []
  none_left us = drop_all (length us) us (omega arith)

  in_place : (s : Stage) → scan.present ≡ Some s → Grown scan.args (resume_scan text scan (Tok t ∷ [])) → w + lists_words (scan_lists scan) + length (scan_growth text t scan) ≤ size
  in_place s present (Works ts args_are works) =
      let own : scan_work scan ≡ Some s.list = ap (λ o. option_map (λ (k : Stage). k.list) o) present in
      let grows : scan_growth text t scan ≡ drop (length s.list) ts =
      in_all
      ∙ ap₂ (λ (us : List (List Token)) (o : Option (List Token)). drop (length (unwrap_or (scan_work scan) [])) (target_by (drop (length scan.args) us) o)) args_are works
      ∙ ap₂ (λ (o : Option (List Token)) (us : List (List Token)). drop (length (unwrap_or o [])) (target_by us (Some ts))) own (none_left scan.args) in
      let before : lists_words (scan_lists scan) ≡ 1 + length s.list + lists_words (last_first scan.args []) = omega (arith, scan_words scan, work_words (scan_work scan) s.list own) in
      let behind_it : lists_words (call_lists new) ≡ 1 + length ts + lists_words (last_first scan.args []) = omega (arith, come_words text t name scan new comes, work_words (work_in (resume_scan text scan (Tok t ∷ []))) ts works, ap (λ (us : List (List Token)). lists_words (last_first us [])) args_are) in
      omega (arith, before, ap length grows, drop_words (length s.list) (w + lists_words (last_first scan.args [])) size ts (omega (arith, now, behind_it)) (omega (arith, was, before)))
  in_place s present (Adds a args_are) =
      let own : scan_work scan ≡ Some s.list = ap (λ o. option_map (λ (k : Stage). k.list) o) present in
      let grows : scan_growth text t scan ≡ drop (length s.list) a =
      in_all
      ∙ ap (λ (us : List (List Token)). drop (length (unwrap_or (scan_work scan) [])) (target_by (drop (length scan.args) us) (work_in (resume_scan text scan (Tok t ∷ []))))) args_are
      ∙ ap₂ (λ (o : Option (List Token)) (us : List (List Token)). drop (length (unwrap_or o [])) (target_by us (work_in (resume_scan text scan (Tok t ∷ []))))) own (drop_at scan.args (a ∷ []) (length scan.args) refl) in
      let before : lists_words (scan_lists scan) ≡ 1 + length s.list + lists_words (last_first scan.args []) = omega (arith, scan_words scan, work_words (scan_work scan) s.list own) in
      let behind_it : lists_words (list_of_tokens a) + lists_words (last_first scan.args []) ≤ lists_words (call_lists new) = omega (arith, come_words text t name scan new comes, ap (λ (us : List (List Token)). lists_words (last_first us [])) args_are, one_more scan.args a) in
      omega (arith, before, ap length grows, argument_words (length s.list) (w + lists_words (last_first scan.args [])) size a (omega (arith, now, behind_it)) (omega (arith, was, before)))

  in_front : scan.present ≡ None → scan.args ≡ [] → 0 < length (start_of (drop scan.at text)) → w + lists_words (scan_lists scan) + length (scan_growth text t scan) ≤ size
  in_front none empty some =
      let grows : scan_growth text t scan ≡ [] =
      in_all
      ∙ ap (λ (us : List (List Token)). drop (length (unwrap_or (scan_work scan) [])) (target_by (drop (length us) (arguments_in (resume_scan text scan (Tok t ∷ [])))) (work_in (resume_scan text scan (Tok t ∷ []))))) empty
      ∙ ap (λ (a : Answer). drop (length (unwrap_or (scan_work scan) [])) (target_by (arguments_in a) (work_in a))) (ap (λ o. resume_at (drop scan.at text) scan o (Tok t ∷ [])) none)
      ∙ ap (λ (ts : List Token). drop (length (unwrap_or (scan_work scan) [])) ts) (start_target scan.mode (start_of (drop scan.at text)) (places_of (drop scan.at text)) t some)
      ∙ ap (λ o. drop (length (unwrap_or (option_map (λ (k : Stage). k.list) o) [])) []) none in
      omega (arith, was, ap length grows)

  pub growth_fits : (o : Option Stage) → scan.present ≡ o → (scan.present ≡ None → (scan.args ≡ []) × (0 < length (start_of (drop scan.at text)))) → w + lists_words (scan_lists scan) + length (scan_growth text t scan) ≤ size
  growth_fits None is front = in_front is (front is).0 (front is).1
  growth_fits (Some s) is front = in_place s is (grown_in_place text scan s t is)

-- The words that the lists take in main memory are those of the plain lists.
use Rattle.std.proofs.Common.{◌≡◌, ℕ, ◌+◌, ◌<◌, ◌≤◌, List, [], ◌∷◌, ◌++◌, length, map, reverse, Option, None, Some, inl, inr, refl, sym, ap, ◌∙◌, arith}
use Rattle.std.specs.Prelude.{sum_by, option_to_list}
use Rattle.std.proofs.lemmas.Bool.{cases_lt}
use Rattle.std.proofs.lemmas.List.{length-reverse}
use Rattle.std.proofs.lemmas.List.Sums.{sum_by-cons, sum_by-append}
use Rattle.tex_defs.specs.declared.Token.{Token}
use Rattle.tex_defs.specs.declared.Sizes.{Sizes}
use Rattle.plain_tokens.specs.Puts.{Put}
use Rattle.plain_tokens.specs.Tables.{list_words, lists_words, made_words, put_words}
use Rattle.token_lists.specs.declared.Build.{Build}
use Rattle.token_lists.specs.Ids.{build_id}
use Rattle.token_lists.specs.Table.{Entry, words, tokens_at, holders_at}
use Rattle.equivalents.specs.Holding.{lists_held, shared_words}
use Rattle.eqtb_save.specs.Table.{Table}
use Rattle.eqtb_save.specs.Holding as eqtb
use Rattle.input_state.specs.Callings.{call_lists}
use Rattle.input_state.specs.declared.gathering.Gathering as code
use Rattle.input_stack.specs.Pending.{times}
use Rattle.input_stack.specs.View.{pending}
use Rattle.input_stack.specs.declared.stack.InputStack.{InputStack}
use Rattle.input_state.specs.HeldLists.{words_held}
use Rattle.input_state.specs.HeldViews.{Named, call_holds, calling_of, IsCall, text, made_text, fronts, texts, lists_of, all_builds, built, owns, bodies, opens, puts_in, IsShared}
use Rattle.input_state.proofs.Counting.{some, some_one, some_none, mark, words_at, times_cons, times_append, words_counted}
use Rattle.input_state.proofs.Shares.{held_parts, macro_once}
use Rattle.input_state.proofs.CallNumbers.{call_numbers, call_times, call_shown}
use Rattle.input_state.proofs.Levels.{no_opens, front_words}
use Rattle.input_state.proofs.Sharing.{built_cons}
use Rattle.input_state.proofs.Sources.{fronts_in}

pub build_times : (bs : List Build) (h : ℕ) → times h (map build_id bs) ≡ built bs h
build_times [] h = refl
build_times (b ∷ bs) h = omega (arith, build_times bs h, times_cons h (build_id b) (map build_id bs), built_cons b bs h)

build_words : (table : List (Option Entry)) (bs : List Build) → sum_by (words_at table) (map build_id bs) ≡ lists_words (map (text table) bs)
build_words table [] = refl
build_words table (b ∷ bs) = omega (arith, build_words table bs, sum_by-cons (words_at table) (build_id b) (map build_id bs), sum_by-cons list_words (text table b) (map (text table) bs))

all_words : (table : List (Option Entry)) (making : Option Build) (bs : List Build) → lists_words (map (text table) (option_to_list making ++ bs)) ≡ made_words (made_text table making) + lists_words (map (text table) bs)
all_words table None bs = omega arith
all_words table (Some b) bs = omega (arith, sum_by-cons list_words (text table b) (map (text table) bs))

words_shown : (table : List (Option Entry)) (ns : List ℕ) → sum_by (words_at table) ns ≡ lists_words (map (tokens_at table) ns)
words_shown table [] = refl
words_shown table (n ∷ ns) = omega (arith, words_shown table ns, sum_by-cons (words_at table) n ns, sum_by-cons list_words (tokens_at table n) (map (tokens_at table) ns))

call_words : (table : List (Option Entry)) (m : Table) (k : code.Gathering) → IsCall table m k → lists_words (call_lists (calling_of table k)) ≡ sum_by (words_at table) (call_numbers k)
call_words table m k is = sym (words_shown table (call_numbers k) ∙ ap lists_words (call_shown table m k is))

-- each list is a macro's, or is held for itself in one place
held_once : (a b o c d : ℕ) → a + d ≤ 1 → (0 < a + d → b + c ≡ 0) → (a ≡ 0 → o ≡ 0) → some (a + (b + o) + (d + c)) ≡ some (c + b) + (a + d)
held_once a b o c d sole apart opens = elim (cases_lt 0 (a + d)) [
  | inl lt ↦
      let none = apart lt in
      omega (arith, some_one (a + (b + o) + (d + c)) (omega (arith, lt)), some_none (c + b) (omega (arith, none)), sole, lt)
  | inr ge ↦
      let same : a + (b + o) + (d + c) ≡ c + b = omega (arith, ge, opens (omega (arith, ge))) in
      omega (arith, ap some same, ge)
]

pub words_are : (table : List (Option Entry)) (stack : InputStack) (making : Option Build) (gathered : List Build) (m : Named) (sizes : Sizes) → IsShared table stack (all_builds making gathered) m → IsCall table m.table m.call → words table ≡ words_held (lists_of table (pending table stack) making gathered m sizes)
words_are table stack making gathered m sizes shared is =
    let bs = all_builds making gathered in
    let ps = puts_in (pending table stack) in
    let ns = owns ps in
    let ks = call_numbers m.call ++ map build_id bs in
    let others : (h : ℕ) → times h ks ≡ built bs h + call_holds m.call h =
    λ h. omega (arith, times_append h (call_numbers m.call) (map build_id bs), build_times bs h, call_times table m.table m.call h is) in
    let counted : (h : ℕ) → some (holders_at table h) ≡ mark (lists_held m.table.groups) (fronts table ps) h + times h (ns ++ ks) =
    λ h.
    let d = built bs h + call_holds m.call h in
    let all : holders_at table h ≡ times h ns + (times h (bodies ps) + times h (opens ps)) + (d + eqtb.held m.table h) = omega (arith, shared.counted h, held_parts table stack h) in
    let once = held_once (times h ns) (times h (bodies ps)) (times h (opens ps)) (eqtb.held m.table h) d (shared.apart.sole h) (shared.apart.apart h) (no_opens ps shared.fronts h) in
    omega (arith, ap some all, once, macro_once table m.table ps h, others h, times_append h ns ks) in
    let words = words_counted (lists_held m.table.groups) (fronts table ps) table (ns ++ ks) counted in
    let calls = sum_by-append list_words (call_lists (calling_of table m.call)) (map (text table) (reverse gathered)) in
    let all = fronts_in table (pending table stack) in
    let all_lists = ap (λ (qs : List Put). shared_words 0 (lists_held m.table.groups) qs (texts table)) all in
    omega (arith, words, all_lists, ap put_words all, sum_by-append (words_at table) ns ks, sum_by-append (words_at table) (call_numbers m.call) (map build_id bs), front_words table ps shared.listed, build_words table bs, all_words table making (reverse gathered), call_words table m.table m.call is, calls)

-- a list takes a word
few : (us : List (List Token)) → length us ≤ lists_words us
few [] = omega arith
few (u ∷ us) = omega (arith, few us, sum_by-cons list_words u us)

map_length : (table : List (Option Entry)) (bs : List Build) → length (map (text table) bs) ≡ length bs
map_length table [] = refl
map_length table (b ∷ bs) = omega (arith, map_length table bs)

pub gathered_few : (table : List (Option Entry)) (gathered : List Build) → length gathered ≤ lists_words (map (text table) (reverse gathered))
gathered_few table gathered = omega (arith, few (map (text table) (reverse gathered)), map_length table (reverse gathered), length-reverse gathered)

pub gathered_length : (table : List (Option Entry)) (gathered : List Build) → length (map (text table) (reverse gathered)) ≡ length gathered
gathered_length table gathered = omega (arith, map_length table (reverse gathered), length-reverse gathered)

-- The lists of a call by their numbers.
use Rattle.std.proofs.Common.{◌≡◌, ℕ, zero, suc, ◌+◌, ◌<◌, List, [], ◌∷◌, ◌++◌, length, map, take, Option, None, Some, inl, inr, refl, sym, ap, ap₂, ◌∙◌, subst, arith}
use Rattle.std.specs.Prelude.{option_to_list, slice_index_or}
use Rattle.std.proofs.lemmas.Bool.{cases_eq}
use Rattle.std.proofs.lemmas.List.{map-append}
use Rattle.std.proofs.lemmas.List.Sums.{sum_by-cons}
use Rattle.tex_defs.specs.declared.Token.{Token}
use Rattle.token_lists.specs.declared.ListRef.{ListRef}
use Rattle.token_lists.specs.Ids.{build_id, id_of}
use Rattle.token_lists.specs.Table.{Entry, tokens_at}
use Rattle.token_lists.specs.Accounts.{cell_holds, cells_hold}
use Rattle.plain_tokens.specs.Puts.{list_of_tokens}
use Rattle.macro_args.specs.declared.args.Args.{Args}
use Rattle.macro_args.specs.Args.{args_in, args_hold, cell_tokens, IsFilled}
use Rattle.macro_call.specs.declared.present.Present.{Present}
use Rattle.macro_call.specs.Holds.{present_holds}
use Rattle.macro_call.specs.Listed.{AreListed}
use Rattle.macro_call.specs.Scans.{work_by}
use Rattle.eqtb_save.specs.Table.{Table}
use Rattle.input_stack.specs.Pending.{times}
use Rattle.input_stack.proofs.CallKept.{filled_holds}
use Rattle.input_state.specs.Callings.{call_lists, last_first}
use Rattle.input_state.specs.declared.gathering.Gathering as code
use Rattle.input_state.specs.declared.gathering.Gathering.TheVariants as call
use Rattle.input_state.specs.HeldViews.{call_holds, calling_of, IsCall}
use Rattle.input_state.proofs.Counting.{holds_other, times_cons, times_append}

-- a list with a token is one
pub one_list : (ts : List Token) → 0 < length ts → list_of_tokens ts ≡ ts ∷ []
one_list [] some = absurd (omega (arith, some))
one_list (t ∷ ts) some = refl

-- THE ARGUMENTS

-- the last first, in front of others
cell_numbers : List (Option ListRef) → List ℕ → List ℕ
cell_numbers [] others = others
cell_numbers (None ∷ cells) others = cell_numbers cells others
cell_numbers (Some r ∷ cells) others = cell_numbers cells (id_of r ∷ others)

cell_times : (cells : List (Option ListRef)) (others : List ℕ) (h : ℕ) → times h (cell_numbers cells others) ≡ cells_hold cells h + times h others
unfolding cell_numbers
cell_times [] others h = omega arith
cell_times (None ∷ cells) others h = omega (arith, cell_times cells others h, sum_by-cons (λ (c : Option ListRef). cell_holds c h) None cells)
cell_times (Some r ∷ cells) others h = omega (arith, cell_times cells (id_of r ∷ others) h, times_cons h (id_of r) others, sum_by-cons (λ (c : Option ListRef). cell_holds c h) (Some r) cells)

-- each list among the cells has a token
pub HaveTokens : List (Option Entry) → List (Option ListRef) → Type 0
HaveTokens table [] = Unit {0}
HaveTokens table (c ∷ cells) = ((r : ListRef) → c ≡ Some r → 0 < length (tokens_at table (id_of r))) × HaveTokens table cells

pub have_tokens : (table : List (Option Entry)) (cells : List (Option ListRef)) → ((i : ℕ) (r : ListRef) → slice_index_or cells i None ≡ Some r → 0 < length (tokens_at table (id_of r))) → HaveTokens table cells
unfolding HaveTokens
have_tokens table [] listed = tt
have_tokens table (c ∷ cells) listed = (λ r is. listed 0 r is, have_tokens table cells (λ i r is. listed (suc i) r is))

-- so has each list that they hold
pub token_at : (table : List (Option Entry)) (cells : List (Option ListRef)) → HaveTokens table cells → (h : ℕ) → 0 < cells_hold cells h → 0 < length (tokens_at table h)
unfolding HaveTokens
token_at table [] have h some = absurd (omega (arith, some))
token_at table (None ∷ cells) have h some = token_at table cells have.1 h (omega (arith, some, sum_by-cons (λ (c : Option ListRef). cell_holds c h) None cells))
token_at table (Some r ∷ cells) have h some = elim (cases_eq (id_of r) h) [
  | inl is ↦ subst (λ (k : ℕ). 0 < length (tokens_at table k)) is (have.0 r refl)
  | inr other ↦ token_at table cells have.1 h (omega (arith, some, holds_other (id_of r) h other, sum_by-cons (λ (c : Option ListRef). cell_holds c h) (Some r) cells))
]

taken_tokens : (table : List (Option Entry)) (n : ℕ) (cells : List (Option ListRef)) → HaveTokens table cells → HaveTokens table (take n cells)
unfolding HaveTokens
taken_tokens table zero cells have = tt
taken_tokens table (suc n) [] have = tt
taken_tokens table (suc n) (c ∷ cells) have = (have.0, taken_tokens table n cells have.1)

cells_shown : (table : List (Option Entry)) (cells : List (Option ListRef)) (others : List ℕ) → HaveTokens table cells → map (tokens_at table) (cell_numbers cells others) ≡ last_first (map (λ cell. cell_tokens table cell) cells) (map (tokens_at table) others)
unfolding cell_numbers HaveTokens
cells_shown table [] others have = refl
cells_shown table (None ∷ cells) others have = cells_shown table cells others have.1
cells_shown table (Some r ∷ cells) others have =
    let ts = map (tokens_at table) others in
    cells_shown table cells (id_of r ∷ others) have.1
    ∙ ap (λ (us : List (List Token)). last_first (map (λ cell. cell_tokens table cell) cells) (us ++ ts)) (sym (one_list (tokens_at table (id_of r)) (have.0 r refl)))

args_numbers : Args → List ℕ
args_numbers args = cell_numbers (take args.count args.lists) []

args_times : (args : Args) (h : ℕ) → IsFilled args → times h (args_numbers args) ≡ args_hold args h
unfolding args_numbers
args_times args h filled = omega (arith, cell_times (take args.count args.lists) [] h, filled_holds args h filled)

args_shown : (table : List (Option Entry)) (args : Args) → AreListed table args → map (tokens_at table) (args_numbers args) ≡ last_first (args_in table args) []
unfolding args_numbers
args_shown table args listed = cells_shown table (take args.count args.lists) [] (taken_tokens table args.count args.lists (have_tokens table args.lists listed.tokens))

-- THE LIST IN WORK

work_numbers : Option Present → List ℕ
work_numbers None = []
work_numbers (Some p) = build_id p.build ∷ []

work_times : (o : Option Present) (h : ℕ) → times h (work_numbers o) ≡ present_holds o h
unfolding work_numbers
work_times None h = refl
work_times (Some p) h = omega (arith, times_cons h (build_id p.build) [])

work_shown : (table : List (Option Entry)) (o : Option Present) → map (tokens_at table) (work_numbers o) ≡ option_to_list (work_by table o)
unfolding work_numbers
work_shown table None = refl
work_shown table (Some p) = refl

-- THE CALL

scan_shown : (table : List (Option Entry)) (o : Option Present) (args : Args) → AreListed table args → map (tokens_at table) (work_numbers o ++ args_numbers args) ≡ option_to_list (work_by table o) ++ last_first (args_in table args) []
scan_shown table o args listed =
    map-append (tokens_at table) (work_numbers o) (args_numbers args)
    ∙ ap₂ (λ (us vs : List (List Token)). us ++ vs) (work_shown table o) (args_shown table args listed)

-- the list in work, and then the arguments so far, the last first
pub call_numbers : code.Gathering → List ℕ
call_numbers call.None = []
call_numbers (call.Gathers name scan) = work_numbers scan.present ++ args_numbers scan.args
call_numbers (call.Stopped name why scan) = work_numbers scan.present ++ args_numbers scan.args
call_numbers (call.Gathered name args) = args_numbers args

pub call_times : (table : List (Option Entry)) (m : Table) (k : code.Gathering) (h : ℕ) → IsCall table m k → times h (call_numbers k) ≡ call_holds k h
unfolding call_numbers
call_times table m call.None h is = refl
call_times table m (call.Gathers name scan) h is = omega (arith, times_append h (work_numbers scan.present) (args_numbers scan.args), work_times scan.present h, args_times scan.args h is.sound.filled)
call_times table m (call.Stopped name why scan) h is = omega (arith, times_append h (work_numbers scan.present) (args_numbers scan.args), work_times scan.present h, args_times scan.args h is.filled)
call_times table m (call.Gathered name args) h is = args_times args h is.filled

pub call_shown : (table : List (Option Entry)) (m : Table) (k : code.Gathering) → IsCall table m k → map (tokens_at table) (call_numbers k) ≡ call_lists (calling_of table k)
unfolding call_numbers
call_shown table m call.None is = refl
call_shown table m (call.Gathers name scan) is = scan_shown table scan.present scan.args is.sound.listed
call_shown table m (call.Stopped name why scan) is = scan_shown table scan.present scan.args is.listed
call_shown table m (call.Gathered name args) is = args_shown table args is.listed

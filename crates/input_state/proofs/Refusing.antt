-- Where a table has no room.
use Rattle.std.proofs.Common.{◌≡◌, ℕ, ◌+◌, ◌<◌, ◌≤◌, List, [], ◌∷◌, length, Option, None, Some, Bool, true, false, cond, refl, sym, ap, ap₂, ◌∙◌, arith}
use Rattle.std.specs.Prelude.{nat_le, nat_lt, if◌then◌else◌}
use Rattle.std.proofs.lemmas.Bool.Decides.{nat_tests}
use Rattle.std.proofs.lemmas.Option.{none-some}
use Rattle.tex_defs.specs.declared.Table.{Table}
use Rattle.tex_defs.specs.declared.Table.TheVariants.{MainMemorySize, InputStackSize, BufferSize, TextInputLevels}
use Rattle.tex_defs.specs.declared.Full.{Full}
use Rattle.tex_defs.specs.declared.Sizes.{Sizes}
use Rattle.plain_tokens.specs.Pending.{Pending}
use Rattle.plain_tokens.specs.Tables.{Demand, memory, buffer, open_files, text_level, refused, full}
use Rattle.token_lists.specs.Table.{Entry, words}
use Rattle.token_lists.specs.Refusals.{IsFull}
use Rattle.input_stack.specs.Pending.{room, levels_full}

pub le_test : (a b : ℕ) → a ≤ b → nat_le a b ≡ true
le_test a b h = grind (arith, nat_tests)

pub gt_test : (a b : ℕ) → b < a → nat_le a b ≡ false
gt_test a b h = grind (arith, nat_tests)

pub memory_fits : (sizes : Sizes) (w n : ℕ) → w < n → n ≡ sizes.main_memory_size → refused sizes (memory 1 w ∷ []) ≡ None
memory_fits sizes w n below size = ap (λ (b : Bool). if b then None else Some (full sizes (memory 1 w))) (le_test (w + 1) sizes.main_memory_size (omega (arith, below, size)))

pub memory_room : (sizes : Sizes) (w n : ℕ) → w + n ≤ sizes.main_memory_size → refused sizes (memory n w ∷ []) ≡ None
memory_room sizes w n fits = ap (λ (b : Bool). if b then None else Some (full sizes (memory n w))) (le_test (w + n) sizes.main_memory_size fits)

same_full : (t u : Table) (a b c d : ℕ) → t ≡ u → a ≡ b → c ≡ d → ◌≡◌ {A = Full} (record { table = t; used = a; size = c }) (record { table = u; used = b; size = d })
same_full t u a b c d e f g = rw (e, f, g) refl

pub memory_full : (sizes : Sizes) (table : List (Option Entry)) (w : ℕ) (f : Full) → IsFull f table → words table ≡ w → length table ≡ sizes.main_memory_size → refused sizes (memory 1 w ∷ []) ≡ Some f
memory_full sizes table w f is same size =
    let e : nat_le (w + 1) sizes.main_memory_size ≡ false = gt_test (w + 1) sizes.main_memory_size (omega (arith, is.full, same, size)) in
    ap (λ (b : Bool). if b then None else Some (full sizes (memory 1 w))) e
    ∙ ap (λ (x : Full). Some x) (same_full MainMemorySize f.table w f.used sizes.main_memory_size f.size (sym is.of_memory) (sym same ∙ sym is.used) (sym size ∙ sym is.size))

less_test : (a b : ℕ) → nat_lt a b ≡ nat_le (a + 1) b
less_test a b = grind (arith, nat_tests)

room_by : (b : Bool) (used size : ℕ) → cond b None (Some (levels_full used size)) ≡ (if b then None else Some (levels_full used size))
room_by true used size = refl
room_by false used size = refl

-- a level more
pub levels_refused : (sizes : Sizes) (used n size : ℕ) → used ≡ n → size ≡ sizes.input_stack_size → room size used ≡ refused sizes (record { table = InputStackSize; used = n; need = 1 } ∷ [])
levels_refused sizes used n size same is =
    ap (λ (k : ℕ). room k used) is
    ∙ ap (λ (k : ℕ). room sizes.input_stack_size k) same
    ∙ ap (λ (b : Bool). cond b None (Some (levels_full n sizes.input_stack_size))) (less_test n sizes.input_stack_size)
    ∙ room_by (nat_le (n + 1) sizes.input_stack_size) n sizes.input_stack_size

-- BUFFER

module _ (sizes : Sizes) (used need : ℕ) (ds : List Demand) where
  by_room : (b : Bool) → nat_le (used + need) sizes.buffer_size ≡ b → refused sizes (buffer need used ∷ ds) ≡ (if b then refused sizes ds else Some (full sizes (buffer need used)))
  by_room b is = ap (λ (c : Bool). if c then refused sizes ds else Some (full sizes (buffer need used))) is

  pub buffer_fits : used + need ≤ sizes.buffer_size → refused sizes (buffer need used ∷ ds) ≡ refused sizes ds
  buffer_fits fits = by_room true (le_test (used + need) sizes.buffer_size fits)

  pub buffer_full : sizes.buffer_size < used + need → refused sizes (buffer need used ∷ ds) ≡ Some (record { table = BufferSize; used = used; size = sizes.buffer_size })
  buffer_full over = by_room false (gt_test (used + need) sizes.buffer_size over)

-- FILES

is_few : (m n : ℕ) → nat_le m n ≡ true → m ≤ n
is_few m n is = grind (arith, nat_tests)

abbrev files_full : Sizes → ℕ → Full
files_full sizes used = record { table = TextInputLevels; used = used; size = sizes.text_input_levels }

by_levels : (sizes : Sizes) (p : Pending) (b : Bool) → nat_le (open_files p + 1) sizes.text_input_levels ≡ b → refused sizes (text_level p ∷ []) ≡ (if b then None else Some (files_full sizes (open_files p)))
by_levels sizes p b is = ap (λ (c : Bool). if c then None else Some (files_full sizes (open_files p))) is

pub file_fits : (sizes : Sizes) (p : Pending) → open_files p < sizes.text_input_levels → None ≡ refused sizes (text_level p ∷ [])
file_fits sizes p below = sym (by_levels sizes p true (le_test (open_files p + 1) sizes.text_input_levels (omega (arith, below))))

pub file_full : (sizes : Sizes) (p : Pending) (used size : ℕ) → used ≡ open_files p → size ≡ sizes.text_input_levels → size ≤ used → Some (record { table = TextInputLevels; used = used; size = size }) ≡ refused sizes (text_level p ∷ [])
file_full sizes p used size is same over =
    ap₂ (λ (m n : ℕ). let f : Full = record { table = TextInputLevels; used = m; size = n } in Some f) is same
    ∙ sym (by_levels sizes p false (gt_test (open_files p + 1) sizes.text_input_levels (omega (arith, over, is, same))))

fits_by : (b : Bool) (m n : ℕ) (f : Full) → nat_le m n ≡ b → ◌≡◌ {A = Option Full} (if b then None else Some f) None → m ≤ n
fits_by true m n f is none = is_few m n is
fits_by false m n f is none = absurd (none-some f (sym none))

pub file_below : (sizes : Sizes) (p : Pending) → refused sizes (text_level p ∷ []) ≡ None → open_files p < sizes.text_input_levels
file_below sizes p none =
    let within : open_files p + 1 ≤ sizes.text_input_levels = fits_by (nat_le (open_files p + 1) sizes.text_input_levels) (open_files p + 1) sizes.text_input_levels (files_full sizes (open_files p)) refl none in
    omega (arith, within)

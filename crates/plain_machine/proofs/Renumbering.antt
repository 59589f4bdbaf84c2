-- Each rule does the same under other numbers of the macros.
use Rattle.std.proofs.Common.{◌≡◌, ℕ, ◌+◌, List, [], ◌∷◌, length, Option, Some, None, refl, ap, ap₂, ◌++◌, map, ◌∙◌}
use Rattle.std.specs.Prelude.{fold, Bool, true, false}
use Rattle.std.proofs.Math.ListN.{get_or-map}
use Rattle.tex_defs.specs.declared.Token.{Token}
use Rattle.tex_defs.specs.declared.Token.TheVariants as token
use Rattle.tex_defs.specs.declared.Frozen.{Frozen}
use Rattle.tex_defs.specs.declared.Frozen.TheVariants as frozen
use Rattle.tex_defs.specs.declared.Name.{Name}
use Rattle.tex_defs.specs.declared.Name.TheVariants as name
use Rattle.tex_defs.specs.declared.Meaning.{Meaning}
use Rattle.tex_defs.specs.declared.Meaning.TheVariants as means
use Rattle.tex_defs.specs.declared.Seen.{Seen}
use Rattle.tex_defs.specs.declared.Table.TheVariants.{InputStackSize, ParameterStackSize, TextInputLevels}
use Rattle.plain_tokens.specs.Lex.{Lexed, Gives, Invalid, UsedUp, lexed}
use Rattle.plain_tokens.specs.Puts.{Item, First, Whole, Own, Macro, Put, put_top, with_put, unless_ended, without_ended, without_gaps, passed_top, passed, top_item, next_item, put_levels, put_parameters, levels_of, when_some}
use Rattle.plain_tokens.specs.Pending.{Pending, Source, Progress, Begun, Closed, FileOver, with_puts, end_token_lists, put_front, beneath, from_begun, from_file, from_line, from_list, from_front, pulled, begun_by, with_begun, outer_puts, all_puts}
use Rattle.plain_tokens.specs.Meanings.{location, fixed_meaning, frozen_meaning, looked_up, name_meaning, seen_as, token_meaning, seen, met, whole_meaning, let_meaning, meaning_to_let}
use Rattle.plain_tokens.specs.Tables.{Demand, whole_words, lists_words, argument_words, put_words, made_words, held_words, file_levels, begun_files, levels, opened_files, level, opened_level, parameters, line_room, lines_beneath, open_lines, buffer, line_need, next_line, first_line_of, next_file, text_level, spelt_name}
use Rattle.plain_machine.specs.Numbers.{meaning_of, meanings_of, whole_of, put_of, puts_of, source_of, pending_of, pulled_of}

module _ (number : ℕ → ℕ) where
  -- THE LISTS IN FRONT

  settled_top_of : (p : Put) (xs : List Item) (below rest : List Put) → unless_ended (put_of number p) xs (puts_of number below) (puts_of number rest) ≡ puts_of number (unless_ended p xs below rest)
  settled_top_of p [] below rest = refl
  settled_top_of p (x ∷ xs) below rest = refl

  pub settled_of : (ps : List Put) → without_ended (puts_of number ps) ≡ puts_of number (without_ended ps)
  settled_of [] = refl
  settled_of (p ∷ ps) = rw (settled_of ps) (settled_top_of p p.items (without_ended ps) ps)

  passed_top_of : (p : Put) (xs : List Item) (below rest : List Put) → passed_top (put_of number p) xs (puts_of number below) (puts_of number rest) ≡ puts_of number (passed_top p xs below rest)
  passed_top_of p [] below rest = refl
  passed_top_of p (x ∷ xs) below rest = refl

  pub passed_of : (ps : List Put) → passed (puts_of number ps) ≡ puts_of number (passed ps)
  passed_of [] = refl
  passed_of (p ∷ ps) = rw (passed_of ps) (passed_top_of p (without_gaps p.items) (passed ps) ps)

  put_top_of : (p : Put) (xs : List Item) (ps : List Put) → put_top (put_of number p) xs (puts_of number ps) ≡ puts_of number (put_top p xs ps)
  put_top_of p [] ps = refl
  put_top_of p (x ∷ xs) ps = refl

  pub with_put_of : (p : Put) (ps : List Put) → with_put (put_of number p) (puts_of number ps) ≡ puts_of number (with_put p ps)
  with_put_of p ps = put_top_of p p.items ps

  top_item_of : (ps : List Put) → top_item (puts_of number ps) ≡ top_item ps
  top_item_of [] = refl
  top_item_of (p ∷ ps) = refl

  pub next_item_of : (ps : List Put) → next_item (puts_of number ps) ≡ next_item ps
  next_item_of ps = ap top_item (passed_of ps) ∙ top_item_of (passed ps)

  -- a sum over the lists that sees no number
  sums_of : (f : Put → ℕ) → ((p : Put) → f (put_of number p) ≡ f p) → (n : ℕ) (ps : List Put) → fold (λ a p. a + f p) n (puts_of number ps) ≡ fold (λ a p. a + f p) n ps
  sums_of f same n [] = refl
  sums_of f same n (p ∷ ps) = ap (λ (k : ℕ). fold (λ (a : ℕ) (x : Put). a + f x) (n + k) (puts_of number ps)) (same p) ∙ sums_of f same (n + f p) ps

  pub put_levels_of : (ps : List Put) → put_levels (puts_of number ps) ≡ put_levels ps
  put_levels_of ps = sums_of (λ p. levels_of p.items) (λ p. refl) 0 ps

  pub put_parameters_of : (ps : List Put) → put_parameters (puts_of number ps) ≡ put_parameters ps
  put_parameters_of ps = sums_of (λ p. when_some p.items (length p.arguments)) (λ p. refl) 0 ps

  whole_words_of : (w : Whole) → whole_words (whole_of number w) ≡ whole_words w
  whole_words_of (Own ts) = refl
  whole_words_of (Macro n) = refl

  pub put_words_of : (ps : List Put) → put_words (puts_of number ps) ≡ put_words ps
  put_words_of ps = sums_of (λ p. whole_words p.list + argument_words p.arguments) (λ p. ap (λ (n : ℕ). n + argument_words p.arguments) (whole_words_of p.list)) 0 ps

  pub held_words_of : (ps : List Put) (making : Option (List Token)) (lists : List (List Token)) → held_words (puts_of number ps) making lists ≡ held_words ps making lists
  held_words_of ps making lists = ap (λ (n : ℕ). n + (made_words making + lists_words lists)) (put_words_of ps)

  -- WHAT IS PENDING

  pub settle_of : (p : Pending) → end_token_lists (pending_of number p) ≡ pending_of number (end_token_lists p)
  settle_of p = ap (λ (ps : List Put). with_puts ps (pending_of number p)) (settled_of p.puts)

  pub put_front_of : (x : Put) (p : Pending) → put_front (put_of number x) (pending_of number p) ≡ pending_of number (put_front x p)
  put_front_of x p = ap (λ (ps : List Put). with_puts ps (pending_of number p)) (with_put_of x p.puts)

  beneath_of : (outer : List Source) → beneath (map (source_of number) outer) ≡ pending_of number (beneath outer)
  beneath_of [] = refl
  beneath_of (s ∷ outer) = refl

  begun_of : (p : Pending) (ends : Bool) (bytes : List ℕ) → from_begun (pending_of number p) ends bytes ≡ pulled_of number (from_begun p ends bytes)
  begun_of p true bytes = ap FileOver (beneath_of p.outer)
  begun_of p false [] = ap FileOver (beneath_of p.outer)
  begun_of p false (c ∷ cs) = refl

  file_of : (p : Pending) (file : Progress) → from_file (pending_of number p) file ≡ pulled_of number (from_file p file)
  file_of p Begun = begun_of p p.ends p.rest
  file_of p Closed = refl

  line_of : (p : Pending) (l : Lexed) → from_line (pending_of number p) l ≡ pulled_of number (from_line p l)
  line_of p (Gives x state line) = refl
  line_of p (Invalid state line) = refl
  line_of p UsedUp = file_of p p.file

  list_of : (categories : List ℕ) (p : Pending) (x : Put) (ps : List Put) (is : List Item) → from_list categories (pending_of number p) (put_of number x) (puts_of number ps) is ≡ pulled_of number (from_list categories p x ps is)
  list_of categories p x ps [] = line_of p (lexed categories p.lex p.line)
  list_of categories p x ps (i ∷ is) = refl

  front_of : (categories : List ℕ) (p : Pending) (ps : List Put) → from_front categories (pending_of number p) (puts_of number ps) ≡ pulled_of number (from_front categories p ps)
  front_of categories p [] = line_of p (lexed categories p.lex p.line)
  front_of categories p (x ∷ ps) = list_of categories p x ps x.items

  pub pulled_same : (categories : List ℕ) (p : Pending) → pulled categories (pending_of number p) ≡ pulled_of number (pulled categories p)
  pulled_same categories p = ap (from_front categories (pending_of number p)) (passed_of p.puts) ∙ front_of categories p (passed p.puts)

  -- a file that was opened, is begun, or is to end
  begun_by_of : (p : Pending) (o : Option (List ℕ)) → begun_by o (pending_of number p) ≡ pending_of number (begun_by o p)
  begun_by_of p None = refl
  begun_by_of p (Some bytes) = refl

  pub with_begun_of : (p : Pending) → with_begun (pending_of number p) ≡ pending_of number (with_begun p)
  with_begun_of p = begun_by_of p p.next

  -- WHAT COUNTS

  puts_join : (ps qs : List Put) → puts_of number ps ++ puts_of number qs ≡ puts_of number (ps ++ qs)
  puts_join [] qs = refl
  puts_join (p ∷ ps) qs = ap (λ (rest : List Put). put_of number p ∷ rest) (puts_join ps qs)

  outer_puts_of : (outer : List Source) → outer_puts (map (source_of number) outer) ≡ puts_of number (outer_puts outer)
  outer_puts_of [] = refl
  outer_puts_of (s ∷ outer) = ap (λ (ps : List Put). puts_of number s.puts ++ ps) (outer_puts_of outer) ∙ puts_join s.puts (outer_puts outer)

  pub all_puts_of : (p : Pending) → all_puts (pending_of number p) ≡ puts_of number (all_puts p)
  all_puts_of p = ap (λ (ps : List Put). puts_of number p.puts ++ ps) (outer_puts_of p.outer) ∙ puts_join p.puts (outer_puts p.outer)

  -- a sum over the sources beneath that sees no number
  outer_sums_of : (f : Source → ℕ) → ((s : Source) → f (source_of number s) ≡ f s) → (n : ℕ) (outer : List Source) → fold (λ a s. a + f s) n (map (source_of number) outer) ≡ fold (λ a s. a + f s) n outer
  outer_sums_of f same n [] = refl
  outer_sums_of f same n (s ∷ outer) = ap (λ (k : ℕ). fold (λ (a : ℕ) (x : Source). a + f x) (n + k) (map (source_of number) outer)) (same s) ∙ outer_sums_of f same (n + f s) outer

  begun_files_of : (p : Pending) → begun_files (pending_of number p) ≡ begun_files p
  begun_files_of p = ap (λ (n : ℕ). file_levels p.file + n) (outer_sums_of (λ s. file_levels s.file) (λ s. refl) 0 p.outer)

  pub lines_beneath_of : (p : Pending) → lines_beneath (pending_of number p).outer ≡ lines_beneath p.outer
  lines_beneath_of p = outer_sums_of (λ s. line_room s.file s.whole) (λ s. refl) 0 p.outer

  pub open_lines_of : (p : Pending) → open_lines (pending_of number p) ≡ open_lines p
  open_lines_of p = ap (λ (n : ℕ). line_room p.file p.whole + n) (lines_beneath_of p)

  pub levels_same : (p : Pending) → levels (pending_of number p) ≡ levels p
  levels_same p = ap₂ (λ (m n : ℕ). m + n) (ap put_levels (all_puts_of p) ∙ put_levels_of (all_puts p)) (begun_files_of p)

  pub level_of : (p : Pending) → level (pending_of number p) ≡ level p
  level_of p = ap (λ (n : ℕ). record { table = InputStackSize; used = n; need = 1 }) (levels_same p)

  pub opened_level_of : (x : Option Item) (p : Pending) → opened_level x (pending_of number p) ≡ opened_level x p
  opened_level_of None p = refl
  opened_level_of (Some (First t)) p = ap (λ (d : Demand). d ∷ []) (level_of p)
  opened_level_of (Some x) p = refl

  pub parameters_of : (x : Put) (p : Pending) → parameters (put_of number x) (pending_of number p) ≡ parameters x p
  parameters_of x p = ap (λ (n : ℕ). record { table = ParameterStackSize; used = n; need = length x.arguments }) (ap put_parameters (all_puts_of p) ∙ put_parameters_of (all_puts p))

  pub next_line_of : (p : Pending) → next_line (pending_of number p) ≡ next_line p
  next_line_of p = ap (λ (n : ℕ). buffer (line_need p.rest) n ∷ []) (lines_beneath_of p)

  first_line_of_of : (p : Pending) (o : Option (List ℕ)) → first_line_of o (pending_of number p) ≡ first_line_of o p
  first_line_of_of p None = refl
  first_line_of_of p (Some bytes) = ap₂ (λ (n : ℕ) (d : Demand). buffer (line_need bytes) n ∷ d ∷ []) (open_lines_of p) (level_of p)

  pub next_file_of : (p : Pending) → next_file (pending_of number p) ≡ next_file p
  next_file_of p = first_line_of_of p p.next

  pub text_level_of : (p : Pending) → text_level (pending_of number p) ≡ text_level p
  text_level_of p = ap (λ (n : ℕ). record { table = TextInputLevels; used = opened_files p.next + n; need = 1 }) (begun_files_of p)

  pub spelt_name_of : (name : List ℕ) (p : Pending) → spelt_name name (pending_of number p) ≡ spelt_name name p
  spelt_name_of name p = ap (buffer (length name)) (open_lines_of p)

  -- WHAT NAMES MEAN

  frozen_of : (f : Frozen) → frozen_meaning f ≡ meaning_of number (frozen_meaning f)
  frozen_of frozen.Relax = refl
  frozen_of frozen.Fi = refl
  frozen_of frozen.EndGroup = refl
  frozen_of frozen.EndWrite = refl
  frozen_of f = refl

  fixed_of : (n : Name) → fixed_meaning n ≡ meaning_of number (fixed_meaning n)
  fixed_of (name.Frozen f) = frozen_of f
  fixed_of n = refl

  looked_up_of : (cells : List (Meaning (Option ℕ))) (k : Option ℕ) (fixed : Meaning (Option ℕ)) → looked_up (meanings_of number cells) k (meaning_of number fixed) ≡ meaning_of number (looked_up cells k fixed)
  looked_up_of cells None fixed = refl
  looked_up_of cells (Some k) fixed = get_or-map (meaning_of number) cells k means.Undefined

  pub name_meaning_of : (cells : List (Meaning (Option ℕ))) (n : Name) → name_meaning (meanings_of number cells) n ≡ meaning_of number (name_meaning cells n)
  name_meaning_of cells n = ap (looked_up (meanings_of number cells) (location n)) (fixed_of n) ∙ looked_up_of cells (location n) (fixed_meaning n)

  pub seen_as_of : (m : Meaning (Option ℕ)) → seen_as (meaning_of number m) ≡ seen_as m
  seen_as_of means.Undefined = refl
  seen_as_of means.RelaxMarked = refl
  seen_as_of (means.Char category code) = refl
  seen_as_of (means.CharGiven code) = refl
  seen_as_of (means.MathGiven code) = refl
  seen_as_of (means.Register kind n) = refl
  seen_as_of (means.Prim n) = refl
  seen_as_of (means.Macro long outer list) = refl

  pub name_seen_of : (cells : List (Meaning (Option ℕ))) (n : Name) → seen_as (name_meaning (meanings_of number cells) n) ≡ seen_as (name_meaning cells n)
  name_seen_of cells n = rw (name_meaning_of cells n) (seen_as_of (name_meaning cells n))

  pub token_meaning_of : (cells : List (Meaning (Option ℕ))) (t : Token) → token_meaning (meanings_of number cells) t ≡ token_meaning cells t
  token_meaning_of cells (token.Char category c) = refl
  token_meaning_of cells (token.Named n) = name_seen_of cells n
  token_meaning_of cells (token.Marked n) = name_seen_of cells n
  token_meaning_of cells t = refl

  pub seen_of : (cells : List (Meaning (Option ℕ))) (t : Token) → seen (meanings_of number cells) t ≡ seen cells t
  seen_of cells t = rw (token_meaning_of cells t)

  -- as it is handed on
  pub met_of : (cells : List (Meaning (Option ℕ))) (t : Token) → met (meanings_of number cells) t ≡ met cells t
  met_of cells (token.Marked n) = rw (name_seen_of cells n) refl
  met_of cells t = seen_of cells t

  -- what `\let` gives
  whole_meaning_of : (cells : List (Meaning (Option ℕ))) (t : Token) → whole_meaning (meanings_of number cells) t ≡ meaning_of number (whole_meaning cells t)
  whole_meaning_of cells (token.Named n) = name_meaning_of cells n
  whole_meaning_of cells (token.Marked n) = name_meaning_of cells n
  whole_meaning_of cells t = refl

  let_meaning_of : (cells : List (Meaning (Option ℕ))) (t : Token) (m : Meaning Unit) → let_meaning (meanings_of number cells) t m ≡ meaning_of number (let_meaning cells t m)
  let_meaning_of cells t means.RelaxMarked = refl
  let_meaning_of cells t m = whole_meaning_of cells t

  pub meaning_to_let_of : (cells : List (Meaning (Option ℕ))) (x : Seen) → meaning_to_let (meanings_of number cells) x ≡ meaning_of number (meaning_to_let cells x)
  meaning_to_let_of cells x = let_meaning_of cells x.token x.meaning

-- The same state with other numbers of its lists, of macros and of locations: what they are is seen nowhere.
use Rattle.std.specs.Prelude.{◌≡◌, ℕ, Bool, ◌<◌, ◌==◌, ◌||◌, true, List, [], length, map, slice_index_or, Option, None, Some, if◌then◌else◌}
use Rattle.tex_defs.specs.declared.Token.{Token}
use Rattle.tex_defs.specs.declared.Meaning.{Meaning}
use Rattle.tex_defs.specs.declared.Meaning.TheVariants as means
use Rattle.tex_defs.specs.declared.Seen.{Seen}
use Rattle.plain_tokens.specs.Puts.{Put, Whole, Own, Macro}
use Rattle.plain_tokens.specs.Pending.{Pending, Source, put_front, pulled, with_begun, all_puts, Pulled, TokenFrom, LexemeFrom, LineTaken, InvalidMet, FileOver, NothingLeft}
use Rattle.plain_tokens.specs.Tables.{is_put}
use Rattle.tex_defs.specs.declared.Name.{Name}
use Rattle.plain_tokens.specs.Meanings.{seen, met, meaning_to_let, is_listed}
use Rattle.save_stack.specs.declared.GroupKind.{GroupKind}
use Rattle.save_stack.specs.declared.Saved.{Saved}
use Rattle.equivalents.specs.declared.values.Loc.{Loc}
use Rattle.equivalents.specs.declared.values.Val.TheVariants as val
use Rattle.equivalents.specs.Locations.{V, tokens_of, value_seen}
use Rattle.equivalents.specs.Tables.{Tables, get}
use Rattle.equivalents.specs.Groups.{Groups, set, set_name, entered, opened, closed, with_token, depth, current_group, tokens_after, saves, set_demands, name_demands, group_demands, token_demands}
use Rattle.equivalents.specs.Holding.{lists_held, shared_words}
use Rattle.plain_tokens.specs.Printed.{Style, meaning_text, meaning_tokens}
use Rattle.plain_machine.specs.Plan.{shared_tokens}

abbrev pub number_of_list : (ℕ → ℕ) → Option ℕ → Option ℕ
number_of_list number None = None
number_of_list number (Some n) = Some (number n)

abbrev pub meaning_of : (ℕ → ℕ) → Meaning (Option ℕ) → Meaning (Option ℕ)
meaning_of number (means.Macro long outer list) = means.Macro long outer (number_of_list number list)
meaning_of number m = m

abbrev pub meanings_of : (ℕ → ℕ) → List (Meaning (Option ℕ)) → List (Meaning (Option ℕ))
meanings_of number cells = map (meaning_of number) cells

abbrev pub value_of : (ℕ → ℕ) → V → V
value_of number (val.Meant m) = val.Meant (meaning_of number m)
value_of number (val.Tokens list) = val.Tokens (number_of_list number list)
value_of number v = v

abbrev pub tables_of : (ℕ → ℕ) → Tables → Tables
tables_of number m = record m { toks = map (number_of_list number) m.toks; parameters = map (number_of_list number) m.parameters; meanings = meanings_of number m.meanings }

abbrev pub saved_of : (ℕ → ℕ) → Saved V → Saved V
saved_of number e = record { loc = e.loc; value = value_of number e.value; level = e.level }

abbrev pub groups_of : (ℕ → ℕ) → Groups → Groups
groups_of number g = record g { now = tables_of number g.now; outer = map (tables_of number) g.outer; entries = map (λ es. map (saved_of number) es) g.entries }

abbrev pub whole_of : (ℕ → ℕ) → Whole → Whole
whole_of number (Own ts) = Own ts
whole_of number (Macro n) = Macro (number n)

abbrev pub put_of : (ℕ → ℕ) → Put → Put
put_of number p = record { list = whole_of number p.list; arguments = p.arguments; items = p.items }

abbrev pub puts_of : (ℕ → ℕ) → List Put → List Put
puts_of number puts = map (put_of number) puts

abbrev pub source_of : (ℕ → ℕ) → Source → Source
source_of number s = record s { puts = puts_of number s.puts }

abbrev pub pending_of : (ℕ → ℕ) → Pending → Pending
pending_of number p = record p { puts = puts_of number p.puts; outer = map (source_of number) p.outer }

abbrev pub pulled_of : (ℕ → ℕ) → Pulled → Pulled
pulled_of number (TokenFrom t next) = TokenFrom t (pending_of number next)
pulled_of number (LexemeFrom x next) = LexemeFrom x (pending_of number next)
pulled_of number (LineTaken line next) = LineTaken line (pending_of number next)
pulled_of number (InvalidMet next) = InvalidMet (pending_of number next)
pulled_of number (FileOver next) = FileOver (pending_of number next)
pulled_of number NothingLeft = NothingLeft

-- the same numbers, but for one
abbrev pub renumbered : (number : ℕ → ℕ) → (id new : ℕ) → ℕ → ℕ
renumbered number id new n = if n == id then new else number n

-- a list that a location or a saved value holds, or whose body is read
abbrev pub IsHeld : ℕ → (held : List ℕ) → List Put → Type 0
IsHeld n held puts = (is_listed held n || is_put n puts) ≡ true

-- Each macro that is held has its list under its other number, and no two have the same.
pub record Tied (number : ℕ → ℕ) (all_lists : List (List Token)) (held : List ℕ) (puts : List Put) (lists : List (List Token)) : Type 0 where
  pub inside : (n : ℕ) → IsHeld n held puts → n < length lists
  pub within : (n : ℕ) → IsHeld n held puts → number n < length all_lists
  pub tokens : (n : ℕ) → IsHeld n held puts → slice_index_or all_lists (number n) [] ≡ slice_index_or lists n []
  pub apart : (n m : ℕ) → IsHeld n held puts → IsHeld m held puts → number n ≡ number m → n ≡ m

-- The numbers of lists are seen nowhere: not in what is read, nor in what names mean and what `\let` gives, nor in what is fetched from a
-- location, nor in what is shown of meanings, nor in the list that stands at a location, nor in the words that are used.
pub record NumbersAreFree : Type 0 where
  pub reads : (number : ℕ → ℕ) (categories : List ℕ) (p : Pending) → pulled categories (pending_of number p) ≡ pulled_of number (pulled categories p)
  pub puts : (number : ℕ → ℕ) (x : Put) (p : Pending) → put_front (put_of number x) (pending_of number p) ≡ pending_of number (put_front x p)
  pub begins : (number : ℕ → ℕ) (p : Pending) → with_begun (pending_of number p) ≡ pending_of number (with_begun p)
  pub all : (number : ℕ → ℕ) (p : Pending) → all_puts (pending_of number p) ≡ puts_of number (all_puts p)
  pub means : (number : ℕ → ℕ) (cells : List (Meaning (Option ℕ))) (t : Token) → seen (meanings_of number cells) t ≡ seen cells t
  pub meets : (number : ℕ → ℕ) (cells : List (Meaning (Option ℕ))) (t : Token) → met (meanings_of number cells) t ≡ met cells t
  pub lets : (number : ℕ → ℕ) (cells : List (Meaning (Option ℕ))) (x : Seen) → meaning_to_let (meanings_of number cells) x ≡ meaning_of number (meaning_to_let cells x)
  pub stands : (number : ℕ → ℕ) (m : Tables) (l : Loc) → get (tables_of number m) l ≡ value_of number (get m l)
  pub fetches : (number : ℕ → ℕ) (m : Tables) (l : Loc) → value_seen (get (tables_of number m) l) ≡ value_seen (get m l)
  pub texts : (number : ℕ → ℕ) (all_lists : List (List Token)) (g : Groups) (puts : List Put) (lists : List (List Token)) →
      Tied number all_lists (lists_held g) puts lists → (style : Style) (x : Seen) → meaning_text style (shared_tokens all_lists) (meaning_to_let (meanings_of number g.now.meanings) x) ≡ meaning_text style (shared_tokens lists) (meaning_to_let g.now.meanings x)
  pub shows : (number : ℕ → ℕ) (all_lists : List (List Token)) (g : Groups) (puts : List Put) (lists : List (List Token)) →
      Tied number all_lists (lists_held g) puts lists → (x : Seen) → meaning_tokens (shared_tokens all_lists) (meaning_to_let (meanings_of number g.now.meanings) x) ≡ meaning_tokens (shared_tokens lists) (meaning_to_let g.now.meanings x)
  pub lists : (number : ℕ → ℕ) (all_lists : List (List Token)) (g : Groups) (puts : List Put) (lists : List (List Token)) →
      Tied number all_lists (lists_held g) puts lists → (l : Loc) → shared_tokens all_lists (tokens_of (get (tables_of number g.now) l)) ≡ shared_tokens lists (tokens_of (get g.now l))
  pub words : (number : ℕ → ℕ) (all_lists : List (List Token)) (g : Groups) (puts : List Put) (lists : List (List Token)) →
      Tied number all_lists (lists_held g) puts lists → shared_words 0 (lists_held (groups_of number g)) (puts_of number puts) all_lists ≡ shared_words 0 (lists_held g) puts lists
  -- what is assigned, where a group is opened and closed, and where a token is kept for its end
  pub sets : (number : ℕ → ℕ) (global : Bool) (g : Groups) (l : Loc) (v : V) → set global (groups_of number g) l (value_of number v) ≡ groups_of number (set global g l v)
  pub names : (number : ℕ → ℕ) (global : Bool) (g : Groups) (n : Name) (m : Meaning (Option ℕ)) → set_name global (groups_of number g) n (meaning_of number m) ≡ groups_of number (set_name global g n m)
  pub enters : (number : ℕ → ℕ) (g : Groups) → entered (groups_of number g) ≡ groups_of number (entered g)
  pub opens : (number : ℕ → ℕ) (g : Groups) (kind : GroupKind) → opened (groups_of number g) kind ≡ groups_of number (opened g kind)
  pub closes : (number : ℕ → ℕ) (g : Groups) → closed (groups_of number g) ≡ groups_of number (closed g)
  pub keeps : (number : ℕ → ℕ) (g : Groups) (t : Token) → with_token (groups_of number g) t ≡ groups_of number (with_token g t)
  -- what is seen of the open groups, and what they use and need
  pub depth : (number : ℕ → ℕ) (g : Groups) → depth (groups_of number g) ≡ depth g
  pub current_group : (number : ℕ → ℕ) (g : Groups) → current_group (groups_of number g) ≡ current_group g
  pub tokens_after : (number : ℕ → ℕ) (g : Groups) → tokens_after (groups_of number g) ≡ tokens_after g
  pub saves : (number : ℕ → ℕ) (g : Groups) → saves (groups_of number g) ≡ saves g
  pub demands : (number : ℕ → ℕ) (global : Bool) (g : Groups) (l : Loc) → set_demands global (groups_of number g) l ≡ set_demands global g l
  pub name_demands : (number : ℕ → ℕ) (global : Bool) (g : Groups) (n : Name) → name_demands global (groups_of number g) n ≡ name_demands global g n
  pub group_demands : (number : ℕ → ℕ) (g : Groups) → group_demands (groups_of number g) ≡ group_demands g
  pub token_demands : (number : ℕ → ℕ) (g : Groups) → token_demands (groups_of number g) ≡ token_demands g

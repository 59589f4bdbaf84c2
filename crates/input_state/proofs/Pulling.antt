-- What the levels give is what is next pending.
use Rattle.std.proofs.Common.{◌≡◌, ◌≢◌, ℕ, ◌+◌, ◌<◌, ◌≤◌, ◌^◌, List, [], ◌∷◌, ◌++◌, length, drop, Option, None, Some, Result, Ok, Err, refl, sym, ap, ap₂, ◌∙◌, subst, arith}
use Rattle.std.specs.Prelude.{OnErr, MatchResult}
use Rattle.tex_defs.specs.declared.Full.{Full}
use Rattle.tex_defs.specs.declared.Sizes.{Sizes}
use Rattle.plain_tokens.specs.declared.line_state.LineState.{LineState}
use Rattle.plain_tokens.specs.declared.line_state.LineState.TheVariants.{NewLine}
use Rattle.plain_tokens.specs.Lex as lex
use Rattle.plain_tokens.specs.Lex.{lexed}
use Rattle.plain_tokens.specs.Puts as lists
use Rattle.plain_tokens.specs.Pending as plain
use Rattle.plain_tokens.specs.Tables.{refused, opened_level, levels}
use Rattle.line_lexer.specs.declared.Line.{Line}
use Rattle.line_lexer.specs.declared.Lexed.{Lexed}
use Rattle.line_lexer.specs.declared.Lexed.TheVariants as lexed_as
use Rattle.line_lexer.specs.declared.Ahead.TheVariants as ahead
use Rattle.line_lexer.specs.Answers.{rest_of, span, given, looks_of, Takes}
use Rattle.token_lists.specs.Table.{Entry, holders_at}
use Rattle.input_stack.specs.CallViews.{IsCountable}
use Rattle.input_stack.specs.Puts.{Put, Item, Text, First, Later, Gap, next_item, pulled, without_ended}
use Rattle.input_stack.specs.Pending.{Pending, Below, end_token_lists, used_levels, with_puts}
use Rattle.input_stack.specs.Pulls.{Pulls, PullsItem, PullsFrom, HandsOn, refused_at, LineGives, answer_of, looks, item_looks, line_looks, token_in}
use Rattle.input_stack.specs.View.{pending_in}
use Rattle.world_io.specs.declared.traits.InId.{InId}
use Rattle.input_stack.specs.declared.level.Source.{Source}
use Rattle.input_stack.specs.WholeLevel.{WholeLevel}
use Rattle.input_stack.specs.declared.level.Pulled.{Pulled as Given}
use Rattle.input_stack.specs.declared.level.Pulled.TheVariants as given_as
use Rattle.input_state.specs.FileLeft.{FileLeft, innermost, progress_of}
use Rattle.input_state.specs.HeldLists.{HeldLists, Covered, pending_of, outer_in, ahead_of, front_ahead, line_rest, line_state, AreInBuffer, GoFurther}
use Rattle.input_state.specs.HeldViews.{plain_item, fronts, covers, puts_below, puts_in, AreFronts}
use Rattle.input_state.proofs.Fronts.{token_is, next_is, next_some, next_none}
use Rattle.input_state.proofs.Levels.{levels_used, fronts_settle, fronts_pull, fronts_behind}
use Rattle.input_state.proofs.Sources.{all_fronts}
use Rattle.input_state.proofs.Rooms.{beneath_same, outer_puts_are, files_counted}
use Rattle.input_state.proofs.Refusing.{levels_refused}
use Rattle.input_state.proofs.Shares.{Fewer, fewer_none, fewer_settle, fewer_pulled, fewer_behind}
use Rattle.input_state.specs.Reads.{Gives, GivesTo, step_demands}
use Rattle.input_state.specs.Given.{GivesMore}
use Rattle.input_state.specs.Given as answers
use Rattle.input_state.specs.declared.answer.Pulled as answered
use Rattle.input_state.specs.declared.answer.Pulled.TheVariants as answer

-- WHAT COMES NEXT

nothing_left : (c : List ℕ) (state : LineState) → lexed c state [] ≡ lex.UsedUp
unfolding lexed
nothing_left c state = refl

line_ahead : (t : List (Option Entry)) (c b : List ℕ) (bs : List Below) → line_looks c b bs ≡ looks_of (lexed c (line_state (covers t bs)) (line_rest b (covers t bs)))
line_ahead t c b [] = sym (ap looks_of (nothing_left c NewLine))
line_ahead t c b (x ∷ xs) = refl

module _ (t s : List (Option Entry)) (c b : List ℕ) (ls : List WholeLevel) (p : plain.Pending) (puts : p.puts ≡ fronts t (pending_in s ls).puts) (line : p.line ≡ line_rest b (covers t (pending_in s ls).sources)) (state : p.lex ≡ line_state (covers t (pending_in s ls).sources)) where
  front_is : (ps : List lists.Put) → lists.passed (fronts t (pending_in s ls).puts) ≡ ps → ahead_of c p ≡ front_ahead c p ps
  front_is ps e = ap (λ (qs : List lists.Put). front_ahead c p (lists.passed qs)) puts ∙ ap (front_ahead c p) e

  line_is : line_looks c b (pending_in s ls).sources ≡ front_ahead c p []
  line_is = line_ahead t c b (pending_in s ls).sources ∙ ap₂ (λ (x : LineState) (l : List ℕ). looks_of (lexed c x l)) (sym state) (sym line)

  pub item_ahead : (o : Option Item) → next_item (pending_in s ls).puts ≡ o → item_looks c b (pending_in s ls).sources o ≡ ahead_of c p
  item_ahead None is = line_is ∙ sym (front_is [] (next_none t (pending_in s ls).puts is))
  item_ahead (Some x) is =
      let k = next_some t (pending_in s ls).puts x is in
      sym (front_is (k.put ∷ k.below) k.first)

  pub looks_are : looks c b (pending_in s ls) ≡ ahead_of c p
  looks_are = item_ahead (next_item (pending_in s ls).puts) refl

item_passed : (t : List (Option Entry)) (c b : List ℕ) (p : Pending) (o : Option Item) → next_item p.puts ≡ o → item_looks c b p.sources o ≡ ahead.End → lists.passed (fronts t p.puts) ≡ []
item_passed t c b p None is end = next_none t p.puts is
item_passed t c b p (Some x) is end = cc

-- where only the file is left, nothing but gaps is left of the lists in front
pub all_passed : (t : List (Option Entry)) (c b : List ℕ) (p : Pending) → looks c b p ≡ ahead.End → lists.passed (fronts t p.puts) ≡ []
all_passed t c b p end = item_passed t c b p (next_item p.puts) refl end

-- then a pull leaves none
item_left : (size : ℕ) (c b d : List ℕ) (p q : Pending) (o : Option Item) (r : Result Given Full) → item_looks c b p.sources o ≡ ahead.End → PullsItem size c b d p q o r → q.puts ≡ []
item_left size c b d p q (Some x) r end h = cc
item_left size c b d p q None (Ok r) end h = h.0.1
item_left size c b d p q None (Err f) end h =
    let e = h.1 in
    cc

pub none_left : (size : ℕ) (c b d : List ℕ) (p q : Pending) (r : Result Given Full) → looks c b p ≡ ahead.End → Pulls size c b d p q r → q.puts ≡ []
none_left size c b d p q r end h = item_left size c b d p q (next_item p.puts) r end h

-- A LINE GIVES SOMETHING

-- what an answer makes of what is pending
pub record AreReadersAt (c d : List ℕ) (sizes : Sizes) (p q : plain.Pending) (r : Result Given Full) : Type 0 where
  pub more : GivesMore r
  pub reads : Gives (plain.pulled c p) (answers.answer_of r) p q d

line_more : (o : Option InId) (x : Lexed) → (x ≡ lexed_as.End → ⊥) → GivesMore (Ok (answer_of o x))
line_more o (lexed_as.Char category code) ne = tt
line_more o (lexed_as.Active code) ne = tt
line_more o (lexed_as.Single code) ne = tt
line_more o (lexed_as.Word from to) ne = tt
line_more o lexed_as.Empty ne = tt
line_more o lexed_as.Par ne = tt
line_more o lexed_as.Invalid ne = tt
line_more o lexed_as.End ne = absurd (ne refl)

line_reads : (sizes : Sizes) (p : plain.Pending) (d : List ℕ) (o : Option InId) (x : Lexed) (at next : ℕ) (state : LineState) (left : List ℕ) → (x ≡ lexed_as.End → ⊥) → Takes at next x → next ≤ length d →
    Gives (plain.from_line p (given d state left x)) (answers.answer_of (Ok (answer_of o x))) p (plain.on_line left state p) d
line_reads sizes p d o (lexed_as.Char category code) at next state left ne takes within = record { lexeme = lex.Character category code; is = refl; pulls = refl }
line_reads sizes p d o (lexed_as.Active code) at next state left ne takes within = record { lexeme = lex.ActiveName code; is = refl; pulls = refl }
line_reads sizes p d o (lexed_as.Single code) at next state left ne takes within = record { lexeme = lex.SingleName code; is = refl; pulls = refl }
line_reads sizes p d o (lexed_as.Word from to) at next state left ne takes within = record { lexeme = lex.WordName (span d from to); is = (refl, takes.1.0, omega (arith, takes.1.1, within)); pulls = refl }
line_reads sizes p d o lexed_as.Empty at next state left ne takes within = record { lexeme = lex.EmptyName; is = refl; pulls = refl }
line_reads sizes p d o lexed_as.Par at next state left ne takes within = record { lexeme = lex.ParName; is = refl; pulls = refl }
line_reads sizes p d o lexed_as.Invalid at next state left ne takes within = refl
line_reads sizes p d o lexed_as.End at next state left ne takes within = absurd (ne refl)

-- the end is where the line is used up
not_end : (c b d : List ℕ) (l l' : Line) (x : Lexed) → given d l'.state (rest_of d l') x ≡ lexed c l.state (rest_of b l) → looks_of (lexed c l.state (rest_of b l)) ≢ ahead.End → x ≡ lexed_as.End → ⊥
not_end c b d l l' x gives ne is = ne (ap looks_of (sym gives ∙ ap (given d l'.state (rest_of d l')) is))

-- the source on top gives this, over what is pending otherwise
module _ (c b d : List ℕ) (sizes : Sizes) (p : plain.Pending) (front_none : lists.passed p.puts ≡ []) where
  source_reads : (s s' : Source) (r : Given) → LineGives c b d s s' r → p.line ≡ rest_of b s.line → p.lex ≡ s.line.state → ahead_of c p ≢ ahead.End → s.line.end ≤ length d → AreReadersAt c d sizes p (plain.on_line (rest_of d s'.line) s'.line.state p) (Ok r)
  source_reads s s' r g line state more within =
      let x = g.lexed in
      let now : lexed c p.lex p.line ≡ lexed c s.line.state (rest_of b s.line) = ap₂ (λ (k : LineState) (l : List ℕ). lexed c k l) state line in
      let ahead_is : ahead_of c p ≡ looks_of (lexed c s.line.state (rest_of b s.line)) = ap (front_ahead c p) front_none ∙ ap looks_of now in
      let ne = not_end c b d s.line s'.line x g.gives (λ e. more (ahead_is ∙ e)) in
      let pulls : plain.pulled c p ≡ plain.from_line p (given d s'.line.state (rest_of d s'.line) x) = ap (plain.from_front c p) front_none ∙ ap (plain.from_line p) (now ∙ sym g.gives) in
      let k = line_reads sizes p d s.id x s.line.at s'.line.at s'.line.state (rest_of d s'.line) ne g.goes_on.takes (omega (arith, g.goes_on.in_order, g.goes_on.same_end, within)) in
      let q = plain.on_line (rest_of d s'.line) s'.line.state p in
      record {
        more = subst (λ (y : Given). GivesMore (Ok y)) (sym g.answer) (line_more s.id x ne);
        reads = subst (λ (y : plain.Pulled). Gives y (answers.answer_of (Ok r)) p q d) (sym pulls) (subst (λ (y : Given). Gives (plain.from_line p (given d s'.line.state (rest_of d s'.line) x)) (answers.answer_of (Ok y)) p q d) (sym g.answer) k);
      }

-- ALL THAT IS PENDING

-- what is pending, where the lists have the tokens of this table
abbrev pub seen : List (Option Entry) → Pending → List ℕ → List FileLeft → Option (List ℕ) → plain.Pending
seen t p bytes files opened = record {
  puts = fronts t p.puts;
  line = line_rest bytes (covers t p.sources);
  lex = line_state (covers t p.sources);
  whole = (innermost files).whole;
  rest = (innermost files).rest;
  file = progress_of files;
  number = (innermost files).number;
  ends = (innermost files).ends;
  outer = outer_in bytes (covers t p.sources) (drop 1 files);
  next = opened;
}

-- its levels, where there are as many files as lines
levels_seen : (t : List (Option Entry)) (p : Pending) (b : List ℕ) (files : List FileLeft) (opened : Option (List ℕ)) → length files ≡ length (covers t p.sources) → levels (seen t p b files opened) ≡ lists.put_levels (all_fronts t p) + length (covers t p.sources)
levels_seen t p b files opened tied =
    omega (arith, ap (λ (ps : List lists.Put). lists.put_levels (fronts t p.puts ++ ps)) (outer_puts_are b (covers t p.sources) (drop 1 files)), files_counted b (covers t p.sources) files tied)

-- the lines beneath the innermost one are as they were
from_outer : (t : List (Option Entry)) (c b d : List ℕ) (bs after : List Below) (r : Given) (n : ℕ) (fs : List FileLeft) → PullsFrom c b d bs after r → AreInBuffer (covers t bs) n → outer_in d (covers t after) fs ≡ outer_in b (covers t bs) fs
from_outer t c b d [] after r n fs h inside = ap (λ (xs : List Below). outer_in d (covers t xs) fs) h.1
from_outer t c b d (x ∷ xs) after r n fs h inside =
    ap (λ (ys : List Below). outer_in d (covers t ys) fs) h.after
    ∙ beneath_same b d (record { line = h.source.line; puts = fronts t x.puts }) (record { line = x.source.line; puts = fronts t x.puts }) (covers t xs) fs x.source.line.at refl inside.2 h.gives.before

hands_outer : (t : List (Option Entry)) (b d : List ℕ) (p q : Pending) (x : Item) (o : Option Full) (r : Result Given Full) (fs : List FileLeft) → HandsOn b d p q x o r → outer_in d (covers t q.sources) fs ≡ outer_in b (covers t p.sources) fs
hands_outer t b d p q x None r fs h = ap₂ (λ (bytes : List ℕ) (z : Pending). outer_in bytes (covers t z.sources) fs) h.2 h.1
hands_outer t b d p q x (Some f) r fs h = ap₂ (λ (bytes : List ℕ) (z : Pending). outer_in bytes (covers t z.sources) fs) h.2 h.1

item_outer : (t : List (Option Entry)) (size : ℕ) (c b d : List ℕ) (p q : Pending) (o : Option Item) (r : Result Given Full) (n : ℕ) (fs : List FileLeft) → PullsItem size c b d p q o r → AreInBuffer (covers t p.sources) n → outer_in d (covers t q.sources) fs ≡ outer_in b (covers t p.sources) fs
item_outer t size c b d p q (Some x) r n fs h inside = hands_outer t b d p q x (refused_at size x p) r fs h
item_outer t size c b d p q None (Ok r) n fs h inside = from_outer t c b d p.sources q.sources r n fs h.0.0 inside
item_outer t size c b d p q None (Err f) n fs h inside =
    let e = h.1 in
    cc

pub pull_outer : (t : List (Option Entry)) (size : ℕ) (c b d : List ℕ) (p q : Pending) (r : Result Given Full) (n : ℕ) (fs : List FileLeft) → Pulls size c b d p q r → AreInBuffer (covers t p.sources) n → outer_in d (covers t q.sources) fs ≡ outer_in b (covers t p.sources) fs
pull_outer t size c b d p q r n fs h inside = item_outer t size c b d p q (next_item p.puts) r n fs h inside

module _ (t s : List (Option Entry)) (c b d : List ℕ) (ls : List WholeLevel) (q : Pending) (sizes : Sizes) (files : List FileLeft) (opened : Option (List ℕ)) (more : ahead_of c (seen t (pending_in s ls) b files opened) ≢ ahead.End) (same : length d ≡ length b) where
  -- an item is handed on that has room
  pub item_seen : (x : Item) (r : Result Given Full) → next_item (pending_in s ls).puts ≡ Some x → r ≡ Ok (given_as.Token (token_in x)) → q ≡ with_puts (pulled (pending_in s ls).puts) (pending_in s ls) → d ≡ b → AreReadersAt c d sizes (seen t (pending_in s ls) b files opened) (seen t q d files opened) r
  item_seen x r next answer_is after bytes =
      let pp = seen t (pending_in s ls) b files opened in
      let k = next_some t (pending_in s ls).puts x next in
      let then_pending : plain.with_puts (plain.read_on k.put k.left ∷ k.below) pp ≡ seen t q d files opened =
      ap (λ (ps : List lists.Put). plain.with_puts ps pp) (sym k.behind)
      ∙ ap (λ (bytes' : List ℕ). seen t (with_puts (pulled (pending_in s ls).puts) (pending_in s ls)) bytes' files opened) (sym bytes)
      ∙ ap (λ (z : Pending). seen t z d files opened) (sym after) in
      let pulls : plain.pulled c pp ≡ plain.TokenFrom (token_in x) (seen t q d files opened) =
      ap (plain.from_front c pp) k.first
      ∙ ap (plain.from_list c pp k.put k.below) k.has
      ∙ ap₂ plain.TokenFrom (token_is x) then_pending in
      let reads : Gives (plain.pulled c pp) (answer.Token (token_in x)) pp (seen t q d files opened) d = pulls in
      record {
        more = subst GivesMore (sym answer_is) tt;
        reads = subst (λ (y : Result Given Full). Gives (plain.pulled c pp) (answers.answer_of y) pp (seen t q d files opened) d) (sym answer_is) reads;
      }

  source_seen : (bs : List Below) → (pending_in s ls).sources ≡ bs → (r : Given) → PullsFrom c b d bs q.sources r → q.puts ≡ [] → lists.passed (fronts t (pending_in s ls).puts) ≡ [] → AreInBuffer (covers t bs) (length b) → AreReadersAt c d sizes (seen t (pending_in s ls) b files opened) (seen t q d files opened) (Ok r)
  source_seen [] is r h none front_none inside =
      let pp = seen t (pending_in s ls) b files opened in
      let used : lexed c pp.lex pp.line ≡ lex.UsedUp = ap (λ (bs : List Below). lexed c (line_state (covers t bs)) (line_rest b (covers t bs))) is ∙ nothing_left c NewLine in
      absurd (more (ap (front_ahead c pp) front_none ∙ ap looks_of used))
  source_seen (x ∷ xs) is r h none front_none inside =
      let pp = seen t (pending_in s ls) b files opened in
      let line : pp.line ≡ rest_of b x.source.line = ap (λ (bs : List Below). line_rest b (covers t bs)) is in
      let state : pp.lex ≡ x.source.line.state = ap (λ (bs : List Below). line_state (covers t bs)) is in
      let k = source_reads c b d sizes pp front_none x.source h.source r h.gives line state more (omega (arith, inside.1, same)) in
      let outer : outer_in d (covers t q.sources) (drop 1 files) ≡ pp.outer = from_outer t c b d (x ∷ xs) q.sources r (length b) (drop 1 files) h inside ∙ sym (ap (λ (bs : List Below). outer_in b (covers t bs) (drop 1 files)) is) in
      let then_pending : plain.on_line (rest_of d h.source.line) h.source.line.state pp ≡ seen t q d files opened =
      ap (λ (ss : List plain.Source). let z : plain.Pending = record (plain.on_line (rest_of d h.source.line) h.source.line.state pp) { outer = ss } in z) (sym outer)
      ∙ ap (λ (bs : List Below). let z : plain.Pending = record (seen t q d files opened) { puts = []; line = line_rest d (covers t bs); lex = line_state (covers t bs) } in z) (sym h.after)
      ∙ ap (λ (ps : List Put). let z : plain.Pending = record (seen t q d files opened) { puts = fronts t ps } in z) (sym none) in
      subst (λ (z : plain.Pending). AreReadersAt c d sizes pp z (Ok r)) then_pending k

  -- what is given, or that nothing is
  abbrev pub IsPulled : Result Given Full → Type 0
  IsPulled (Ok g) = AreReadersAt c d sizes (seen t (pending_in s ls) b files opened) (seen t q d files opened) (Ok g)
  IsPulled (Err f) = (q ≡ end_token_lists (pending_in s ls)) × (d ≡ b)

  handed : (size : ℕ) (x : Item) (o : Option Full) (r : Result Given Full) → next_item (pending_in s ls).puts ≡ Some x → HandsOn b d (pending_in s ls) q x o r → IsPulled r
  handed size x None r is h = subst IsPulled (sym h.0) (item_seen x (Ok (given_as.Token (token_in x))) is refl h.1 h.2)
  handed size x (Some f) r is h = subst IsPulled (sym h.0) (h.1, h.2)

  item_reads : (size : ℕ) (o : Option Item) (r : Result Given Full) → next_item (pending_in s ls).puts ≡ o → PullsItem size c b d (pending_in s ls) q o r → AreInBuffer (covers t (pending_in s ls).sources) (length b) → IsPulled r
  item_reads size None (Ok r) is h inside = source_seen (pending_in s ls).sources refl r h.0.0 h.0.1 (next_none t (pending_in s ls).puts is) inside
  item_reads size None (Err f) is h inside =
      let e = h.1 in
      cc
  item_reads size (Some x) r is h inside = handed size x (refused_at size x (pending_in s ls)) r is h

  pub pull_reads : (size : ℕ) (r : Result Given Full) → Pulls size c b d (pending_in s ls) q r → AreInBuffer (covers t (pending_in s ls).sources) (length b) → IsPulled r
  pull_reads size r h inside = item_reads size (next_item (pending_in s ls).puts) r refl h inside

  -- WHY NOTHING IS GIVEN

  module _ (tied : length files ≡ length (covers t (pending_in s ls).sources)) where
    -- an argument's level
    refused_is : (size : ℕ) (x : Item) → size ≡ sizes.input_stack_size → refused_at size x (pending_in s ls) ≡ refused sizes (opened_level (Some (plain_item x)) (seen t (pending_in s ls) b files opened))
    refused_is size (Text u) is = refl
    refused_is size (First n u) is = levels_refused sizes (used_levels (pending_in s ls)) _ size (levels_used t (pending_in s ls) ∙ sym (levels_seen t (pending_in s ls) b files opened tied)) is
    refused_is size (Later n u) is = refl
    refused_is size Gap is = refl

    abbrev pub IsRefused : Result Given Full → Type 0
    IsRefused (Ok g) = refused sizes (step_demands (plain.pulled c (seen t (pending_in s ls) b files opened)) (seen t (pending_in s ls) b files opened)) ≡ None
    IsRefused (Err f) = refused sizes (step_demands (plain.pulled c (seen t (pending_in s ls) b files opened)) (seen t (pending_in s ls) b files opened)) ≡ Some f

    pub item_needs : (size : ℕ) (x : Item) → size ≡ sizes.input_stack_size → next_item (pending_in s ls).puts ≡ Some x → refused sizes (step_demands (plain.pulled c (seen t (pending_in s ls) b files opened)) (seen t (pending_in s ls) b files opened)) ≡ refused_at size x (pending_in s ls)
    item_needs size x same is =
        let pp = seen t (pending_in s ls) b files opened in
        let k = next_some t (pending_in s ls).puts x is in
        let pulls : step_demands (plain.pulled c pp) pp ≡ opened_level (lists.next_item pp.puts) pp =
        ap (λ (ps : List lists.Put). step_demands (plain.from_front c pp ps) pp) k.first
        ∙ ap (λ (xs : List lists.Item). step_demands (plain.from_list c pp k.put k.below xs) pp) k.has in
        ap (refused sizes) (pulls ∙ ap (λ (o : Option lists.Item). opened_level o pp) (next_is _ _ _ k)) ∙ sym (refused_is size x same)

    by_hands : (size : ℕ) (x : Item) (o : Option Full) (r : Result Given Full) → refused sizes (step_demands (plain.pulled c (seen t (pending_in s ls) b files opened)) (seen t (pending_in s ls) b files opened)) ≡ o → HandsOn b d (pending_in s ls) q x o r → IsRefused r
    by_hands size x None r is h = subst IsRefused (sym h.0) is
    by_hands size x (Some f) r is h = subst IsRefused (sym h.0) is

    -- what a line gives needs nothing
    line_needs : (g : Given) → AreReadersAt c d sizes (seen t (pending_in s ls) b files opened) (seen t q d files opened) (Ok g) → lists.next_item (fronts t (pending_in s ls).puts) ≡ None → IsRefused (Ok g)
    line_needs (given_as.Token u) is none =
        let pp = seen t (pending_in s ls) b files opened in
        ap (λ (k : plain.Pulled). refused sizes (step_demands k pp)) is.reads ∙ ap (λ (o : Option lists.Item). refused sizes (opened_level o pp)) none
    line_needs (given_as.Lexed lexed_as.Invalid) is none = ap (λ (k : plain.Pulled). refused sizes (step_demands k (seen t (pending_in s ls) b files opened))) is.reads
    line_needs (given_as.Lexed (lexed_as.Char category code)) is none = ap (λ (k : plain.Pulled). refused sizes (step_demands k (seen t (pending_in s ls) b files opened))) is.reads.pulls
    line_needs (given_as.Lexed (lexed_as.Active code)) is none = ap (λ (k : plain.Pulled). refused sizes (step_demands k (seen t (pending_in s ls) b files opened))) is.reads.pulls
    line_needs (given_as.Lexed (lexed_as.Single code)) is none = ap (λ (k : plain.Pulled). refused sizes (step_demands k (seen t (pending_in s ls) b files opened))) is.reads.pulls
    line_needs (given_as.Lexed (lexed_as.Word from to)) is none = ap (λ (k : plain.Pulled). refused sizes (step_demands k (seen t (pending_in s ls) b files opened))) is.reads.pulls
    line_needs (given_as.Lexed lexed_as.Empty) is none = ap (λ (k : plain.Pulled). refused sizes (step_demands k (seen t (pending_in s ls) b files opened))) is.reads.pulls
    line_needs (given_as.Lexed lexed_as.Par) is none = ap (λ (k : plain.Pulled). refused sizes (step_demands k (seen t (pending_in s ls) b files opened))) is.reads.pulls
    line_needs (given_as.Lexed lexed_as.End) is none = ap (λ (k : plain.Pulled). refused sizes (step_demands k (seen t (pending_in s ls) b files opened))) is.reads.pulls
    line_needs given_as.LineEnd is none = absurd is.more
    line_needs given_as.ReadEnd is none = absurd is.more
    line_needs given_as.Bottom is none = absurd is.more

    item_refused : (size : ℕ) (o : Option Item) (r : Result Given Full) → size ≡ sizes.input_stack_size → next_item (pending_in s ls).puts ≡ o → PullsItem size c b d (pending_in s ls) q o r → IsPulled r → IsRefused r
    item_refused size None (Ok r) same is h k = line_needs r k (ap lists.top_item (next_none t (pending_in s ls).puts is))
    item_refused size None (Err f) same is h k =
        let e = h.1 in
        cc
    item_refused size (Some x) r same is h k = by_hands size x (refused_at size x (pending_in s ls)) r (item_needs size x same is) h

    pub pull_refused : (size : ℕ) (r : Result Given Full) → size ≡ sizes.input_stack_size → Pulls size c b d (pending_in s ls) q r → AreInBuffer (covers t (pending_in s ls).sources) (length b) → IsRefused r
    pull_refused size r same h inside = item_refused size (next_item (pending_in s ls).puts) r same refl h (pull_reads size r h inside)

-- WHAT IS TOLD

-- the same, as the views say it
same_gives : (c b d : List ℕ) (files : List FileLeft) (opened : Option (List ℕ)) (old v now n : HeldLists) (a : answered.Pulled) → old ≡ v → n ≡ now → Gives (plain.pulled c (pending_of old b files opened)) a (pending_of old b files opened) (pending_of now d files opened) d →
    Gives (plain.pulled c (pending_of v b files opened)) a (pending_of v b files opened) (pending_of n d files opened) d
same_gives c b d files opened old v now n a is new_is gives =
    subst (λ (w : HeldLists). Gives (plain.pulled c (pending_of v b files opened)) a (pending_of v b files opened) (pending_of w d files opened) d) (sym new_is)
    (subst (λ (w : HeldLists). Gives (plain.pulled c (pending_of w b files opened)) a (pending_of w b files opened) (pending_of now d files opened) d) is gives)

module _ (t s : List (Option Entry)) (c b d : List ℕ) (ls : List WholeLevel) (q : Pending) (sizes : Sizes) (files : List FileLeft) (opened : Option (List ℕ)) (more : ahead_of c (seen t (pending_in s ls) b files opened) ≢ ahead.End) (same : length d ≡ length b) where
  pub told_more : (r : Result Given Full) → IsPulled t s c b d ls q sizes files opened more same r → answers.GivesOrRefuses r
  told_more (Ok g) is = is.more
  told_more (Err f) is = tt

  pub told_settles : (r : Result Given Full) → IsPulled t s c b d ls q sizes files opened more same r → OnErr (answers.told r) ((q ≡ end_token_lists (pending_in s ls)) × (d ≡ b))
  told_settles (Ok g) is = tt
  told_settles (Err f) is = is

  module _ (old v now n : HeldLists) (is_old : old ≡ v) (is_new : n ≡ now) (seen_old : seen t (pending_in s ls) b files opened ≡ pending_of old b files opened) (seen_now : seen t q d files opened ≡ pending_of now d files opened) where
    pub told_gives : (r : Result Given Full) → IsPulled t s c b d ls q sizes files opened more same r → GivesTo (plain.pulled c (pending_of v b files opened)) (answers.told r) (pending_of v b files opened) (pending_of n d files opened) d
    told_gives (Ok g) is =
        same_gives c b d files opened old v now n (answers.answer_of (Ok g)) is_old is_new
        (subst (λ (z : plain.Pending). Gives (plain.pulled c (pending_of old b files opened)) (answers.answer_of (Ok g)) (pending_of old b files opened) z d) seen_now
        (subst (λ (z : plain.Pending). Gives (plain.pulled c z) (answers.answer_of (Ok g)) z (seen t q d files opened) d) seen_old is.reads))
    told_gives (Err f) is = tt

  module _ (tied : length files ≡ length (covers t (pending_in s ls).sources)) (old v : HeldLists) (is_old : old ≡ v) (seen_old : seen t (pending_in s ls) b files opened ≡ pending_of old b files opened) (its : sizes ≡ old.sizes) where
    refusal_at : (o : Option Full) → refused sizes (step_demands (plain.pulled c (seen t (pending_in s ls) b files opened)) (seen t (pending_in s ls) b files opened)) ≡ o → refused v.sizes (step_demands (plain.pulled c (pending_of v b files opened)) (pending_of v b files opened)) ≡ o
    refusal_at o why =
        subst (λ (w : HeldLists). refused w.sizes (step_demands (plain.pulled c (pending_of w b files opened)) (pending_of w b files opened)) ≡ o) is_old
        (subst (λ (z : Sizes). refused z (step_demands (plain.pulled c (pending_of old b files opened)) (pending_of old b files opened)) ≡ o) its
        (subst (λ (z : plain.Pending). refused sizes (step_demands (plain.pulled c z) z) ≡ o) seen_old why))

    pub told_refused : (r : Result Given Full) → IsRefused t s c b d ls q sizes files opened more same tied r → MatchResult (answers.told r) (λ a. refused v.sizes (step_demands (plain.pulled c (pending_of v b files opened)) (pending_of v b files opened)) ≡ None) (λ f. refused v.sizes (step_demands (plain.pulled c (pending_of v b files opened)) (pending_of v b files opened)) ≡ Some f)
    told_refused (Ok g) why = refusal_at None why
    told_refused (Err f) why = refusal_at (Some f) why

-- THE SOURCES STAY

same_further : (cs : List Covered) (n : ℕ) → AreInBuffer cs n → GoFurther cs cs
same_further [] n inside = refl
same_further (c ∷ cs) n inside = record { line = c.line; further = record { forward = omega arith; in_order = inside.0; same_end = refl }; is = refl }

from_further : (t : List (Option Entry)) (c b d : List ℕ) (bs after : List Below) (r : Given) → PullsFrom c b d bs after r → GoFurther (covers t bs) (covers t after)
from_further t c b d [] after r h = ap (covers t) h.1
from_further t c b d (x ∷ xs) after r h =
    let g = h.gives.goes_on in
    record { line = h.source.line; further = record { forward = g.forward; in_order = g.in_order; same_end = g.same_end }; is = ap (covers t) h.after }

hands_sources : (b d : List ℕ) (p q : Pending) (x : Item) (o : Option Full) (r : Result Given Full) → HandsOn b d p q x o r → q.sources ≡ p.sources
hands_sources b d p q x None r h = ap (λ (z : Pending). z.sources) h.1
hands_sources b d p q x (Some f) r h = ap (λ (z : Pending). z.sources) h.1

item_further : (t : List (Option Entry)) (size : ℕ) (c b d : List ℕ) (p q : Pending) (o : Option Item) (r : Result Given Full) (n : ℕ) → AreInBuffer (covers t p.sources) n → PullsItem size c b d p q o r → GoFurther (covers t p.sources) (covers t q.sources)
item_further t size c b d p q (Some x) r n inside h = subst (λ (bs : List Below). GoFurther (covers t p.sources) (covers t bs)) (sym (hands_sources b d p q x (refused_at size x p) r h)) (same_further (covers t p.sources) n inside)
item_further t size c b d p q None (Ok r) n inside h = from_further t c b d p.sources q.sources r h.0.0
item_further t size c b d p q None (Err f) n inside h =
    let e = h.1 in
    cc

pub pull_further : (t : List (Option Entry)) (size : ℕ) (c b d : List ℕ) (p q : Pending) (r : Result Given Full) (n : ℕ) → AreInBuffer (covers t p.sources) n → Pulls size c b d p q r → GoFurther (covers t p.sources) (covers t q.sources)
pull_further t size c b d p q r n inside h = item_further t size c b d p q (next_item p.puts) r n inside h

from_puts : (c b d : List ℕ) (bs after : List Below) (r : Given) → PullsFrom c b d bs after r → puts_below after ≡ puts_below bs
from_puts c b d [] after r h = ap puts_below h.1
from_puts c b d (x ∷ xs) after r h = ap puts_below h.after

hands_fronts : (b d : List ℕ) (p q : Pending) (x : Item) (o : Option Full) (r : Result Given Full) → AreFronts (puts_in p) → HandsOn b d p q x o r → AreFronts (puts_in q)
hands_fronts b d p q x None r a h = subst (λ (z : Pending). AreFronts (puts_in z)) (sym h.1) (fronts_behind p.puts (pulled p.puts) (puts_below p.sources) (fronts_pull p.puts) a)
hands_fronts b d p q x (Some f) r a h = subst (λ (z : Pending). AreFronts (puts_in z)) (sym h.1) (fronts_behind p.puts (without_ended p.puts) (puts_below p.sources) (fronts_settle p.puts) a)

-- where a line gives something, no list is in front of it
line_puts : (p q : Pending) → puts_below q.sources ≡ puts_below p.sources → q.puts ≡ [] → puts_in q ≡ puts_below p.sources
line_puts p q same none = ap₂ (λ (ps qs : List Put). ps ++ qs) none same

item_fronts : (size : ℕ) (c b d : List ℕ) (p q : Pending) (o : Option Item) (r : Result Given Full) → AreFronts (puts_in p) → PullsItem size c b d p q o r → AreFronts (puts_in q)
item_fronts size c b d p q (Some x) r a h = hands_fronts b d p q x (refused_at size x p) r a h
item_fronts size c b d p q None (Ok r) a h = subst AreFronts (sym (line_puts p q (from_puts c b d p.sources q.sources r h.0.0) h.0.1)) (fronts_behind p.puts [] (puts_below p.sources) (λ k. tt) a)
item_fronts size c b d p q None (Err f) a h =
    let e = h.1 in
    cc

pub pull_fronts : (size : ℕ) (c b d : List ℕ) (p q : Pending) (r : Result Given Full) → Pulls size c b d p q r → AreFronts (puts_in p) → AreFronts (puts_in q)
pull_fronts size c b d p q r h a = item_fronts size c b d p q (next_item p.puts) r a h

hands_fewer : (b d : List ℕ) (p q : Pending) (x : Item) (o : Option Full) (r : Result Given Full) → HandsOn b d p q x o r → Fewer (puts_in q) (puts_in p)
hands_fewer b d p q x None r h = subst (λ (z : Pending). Fewer (puts_in z) (puts_in p)) (sym h.1) (fewer_behind (pulled p.puts) p.puts (puts_below p.sources) (fewer_pulled p.puts))
hands_fewer b d p q x (Some f) r h = subst (λ (z : Pending). Fewer (puts_in z) (puts_in p)) (sym h.1) (fewer_settle p)

item_fewer : (size : ℕ) (c b d : List ℕ) (p q : Pending) (o : Option Item) (r : Result Given Full) → PullsItem size c b d p q o r → Fewer (puts_in q) (puts_in p)
item_fewer size c b d p q (Some x) r h = hands_fewer b d p q x (refused_at size x p) r h
item_fewer size c b d p q None (Ok r) h = subst (λ (ps : List Put). Fewer ps (puts_in p)) (sym (line_puts p q (from_puts c b d p.sources q.sources r h.0.0) h.0.1)) (fewer_behind [] p.puts (puts_below p.sources) (fewer_none p.puts))
item_fewer size c b d p q None (Err f) h =
    let e = h.1 in
    cc

pub pull_fewer : (size : ℕ) (c b d : List ℕ) (p q : Pending) (r : Result Given Full) → Pulls size c b d p q r → Fewer (puts_in q) (puts_in p)
pull_fewer size c b d p q r h = item_fewer size c b d p q (next_item p.puts) r h

pub countable_item : (table : List (Option Entry)) (o : Option Item) → ((k : ℕ) → holders_at table k + 1 < 2 ^ 32) → IsCountable table o
countable_item table None few = tt
countable_item table (Some (Text t)) few = tt
countable_item table (Some (First n t)) few = few n
countable_item table (Some (Later n t)) few = tt
countable_item table (Some Gap) few = tt

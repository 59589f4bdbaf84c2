-- Where only the file is left, what it gives is what is next pending.
use Rattle.std.proofs.Common.{◌≡◌, ℕ, ℤ, List, [], ◌∷◌, length, Option, Result, Ok, Err, refl, sym, ap, ◌∙◌, subst}
use Rattle.std.specs.Prelude.{IfOk, IfErr, OnErr, MatchResult, None, Some, Bool, true, false, ◌||◌}
use Rattle.tex_defs.specs.declared.Token.{Token}
use Rattle.tex_defs.specs.declared.Full.{Full}
use Rattle.tex_defs.specs.declared.Sizes.{Sizes}
use Rattle.plain_tokens.specs.Puts.{Item, Put, without_ended, unless_ended, passed, passed_top, without_gaps, top_item}
use Rattle.plain_tokens.specs.Pending.{Pending, Progress, Begun, Closed, end_token_lists, with_puts, all_puts, pulled, from_file, from_begun, takes_file}
use Rattle.plain_tokens.specs.Pending as plain
use Rattle.plain_tokens.specs.Meanings.{is_listed}
use Rattle.plain_tokens.specs.Tables.{is_put, next_line, opened_level, refused}
use Rattle.equivalents.specs.Groups.{Groups}
use Rattle.equivalents.specs.Parameters.{end_of_line}
use Rattle.equivalents.specs.Holding.{lists_held}
use Rattle.line_lexer.specs.declared.Ahead.TheVariants as ahead
use Rattle.input_state.specs.declared.answer.Pulled.{Pulled}
use Rattle.input_state.specs.declared.answer.Pulled.TheVariants as answer
use Rattle.input_state.specs.Stored.{Stored, KeepsShared}
use Rattle.input_state.specs.Macros.{KeepsLists}
use Rattle.input_state.specs.Reads.{Reads, Gives, GivesTo, Pulls, step_demands, pull_refusal, RefusesLine}
use Rattle.input_state.specs.HeldLists.{HeldLists, pending_of, ahead_of, front_ahead}
use Rattle.input_state.specs.FileLeft.{FileLeft, FilesLeft}
use Rattle.input_state.specs.InputViews.{stored_of}
use Rattle.input_state.proofs.Readies.{used_up, in_front}

begun_settled : (p : Pending) (ends : Bool) (rest : List ℕ) → from_begun (end_token_lists p) ends rest ≡ from_begun p ends rest
begun_settled p true rest = refl
begun_settled p false [] = refl
begun_settled p false (c ∷ cs) = refl

-- the file gives the same behind finished lists
file_settled : (p : Pending) (f : Progress) → from_file (end_token_lists p) f ≡ from_file p f
file_settled p Begun = begun_settled p p.ends p.rest
file_settled p Closed = refl

-- finished lists ask for nothing
settled_line : (p : Pending) → next_line (end_token_lists p) ≡ next_line p
settled_line p = refl

top_twice : (p : Put) (xs : List Item) (below rest : List Put) → p.items ≡ xs → without_ended below ≡ below → without_ended (unless_ended p xs below rest) ≡ unless_ended p xs below rest
top_twice p [] below rest is same = same
top_twice p (x ∷ xs) below rest is same = ap (λ (ys : List Item). unless_ended p ys (without_ended rest) rest) is

puts_twice : (ps : List Put) → without_ended (without_ended ps) ≡ without_ended ps
puts_twice [] = refl
puts_twice (p ∷ ps) = top_twice p p.items (without_ended ps) ps refl (puts_twice ps)

pub settled_twice : (p : Pending) → end_token_lists (end_token_lists p) ≡ end_token_lists p
settled_twice p = ap (λ (ps : List Put). with_puts ps p) (puts_twice p.puts)

top_passed : (p : Put) (xs : List Item) (below rest : List Put) → p.items ≡ xs → passed below ≡ passed rest → passed (unless_ended p xs below rest) ≡ passed_top p (without_gaps xs) (passed rest) rest
top_passed p [] below rest is same = same
top_passed p (x ∷ xs) below rest is same = ap (λ (ys : List Item). passed_top p (without_gaps ys) (passed rest) rest) is

-- the finished lists are passed over
pub passed_settled : (ps : List Put) → passed (without_ended ps) ≡ passed ps
passed_settled [] = refl
passed_settled (p ∷ ps) = top_passed p p.items (without_ended ps) ps refl (passed_settled ps)

pub ahead_settled : (c : List ℕ) (p : Pending) → ahead_of c (end_token_lists p) ≡ ahead_of c p
ahead_settled c p = ap (front_ahead c p) (passed_settled p.puts)

-- the answer on what is settled is that on all
settled_reads : (q : plain.Pulled) (x : Pulled) (sizes : Sizes) (end : ℤ) (p new : Pending) (bytes : List ℕ) → passed p.puts ≡ [] →
    Reads q x sizes end (end_token_lists p) new bytes → Reads q x sizes end p new bytes
settled_reads q (answer.Token t) sizes end p new bytes past h = (h.0, ap (λ (ps : List Put). refused sizes (opened_level (top_item ps) p)) past)
settled_reads q (answer.Lexeme l) sizes end p new bytes past h = h
settled_reads q answer.Taken sizes end p new bytes past h = (record { next = h.0.next; is = h.0.is; ended = h.0.ended }, sym (ap (refused sizes) (settled_line p)) ∙ h.1)
settled_reads q answer.Invalid sizes end p new bytes past h = h
settled_reads q answer.FileOver sizes end p new bytes past h = h
settled_reads q answer.Nothing sizes end p new bytes past h = (h.0, h.1 ∙ settled_twice p)

-- what was read had room
fits_reads : (q : plain.Pulled) (x : Pulled) (sizes : Sizes) (end : ℤ) (p new : Pending) (bytes : List ℕ) → Reads q x sizes end p new bytes → refused sizes (step_demands q p) ≡ None
fits_reads q (answer.Token t) sizes end p new bytes h = ap (λ (o : plain.Pulled). refused sizes (step_demands o p)) h.0 ∙ h.1
fits_reads q (answer.Lexeme l) sizes end p new bytes h = ap (λ (o : plain.Pulled). refused sizes (step_demands o p)) h.pulls
fits_reads q answer.Taken sizes end p new bytes h = ap (λ (o : plain.Pulled). refused sizes (step_demands o p)) h.0.is ∙ h.1
fits_reads q answer.Invalid sizes end p new bytes h = ap (λ (o : plain.Pulled). refused sizes (step_demands o p)) h
fits_reads q answer.FileOver sizes end p new bytes h = ap (λ (o : plain.Pulled). refused sizes (step_demands o p)) h
fits_reads q answer.Nothing sizes end p new bytes h = ap (λ (o : plain.Pulled). refused sizes (step_demands o p)) h.0

-- the category codes
abbrev pub codes_of : Stored → List ℕ
codes_of s = s.groups.now.categories

pub fits_pulled : (old new : Stored) (x : Pulled) → Pulls (pulled (codes_of old) old.pending) x old new → pull_refusal old ≡ None
fits_pulled old new x h = fits_reads (pulled (codes_of old) old.pending) x old.sizes (end_of_line old.groups.now) old.pending new.pending new.buffer h

abbrev settled_store : List (List Token) → Stored → Stored
settled_store lists s = record s { pending = end_token_lists s.pending; lists = lists }

module _ (ls : List (List Token)) (old new : Stored) (used : ahead_of (codes_of old) old.pending ≡ ahead.End) where
  pulls_now : (x : Pulled) → Pulls (from_file (end_token_lists old.pending) old.pending.file) x (settled_store ls old) new → Pulls (pulled (codes_of old) old.pending) x old new
  pulls_now x h =
      let k = used_up (codes_of old) old.pending used in
      subst (λ (q : plain.Pulled). Reads q x old.sizes (end_of_line old.groups.now) old.pending new.pending new.buffer) (sym (k.1 ∙ sym (file_settled old.pending old.pending.file)))
      (settled_reads _ x old.sizes (end_of_line old.groups.now) old.pending new.pending new.buffer k.0 h)

  refuses_now : (full : Full) → RefusesLine full (settled_store ls old) new → pull_refusal old ≡ Some full
  refuses_now full h =
      let k = used_up (codes_of old) old.pending used in
      ap (λ (q : plain.Pulled). refused old.sizes (step_demands q old.pending)) (k.1 ∙ sym (file_settled old.pending old.pending.file) ∙ h.takes)
      ∙ sym (ap (refused old.sizes) (settled_line old.pending))
      ∙ h.refused

  by_ok : (r : Result Pulled Full) → IfOk r (λ x. Pulls (from_file (end_token_lists old.pending) old.pending.file) x (settled_store ls old) new) → IfOk r (λ x. Pulls (pulled (codes_of old) old.pending) x old new)
  by_ok (Ok x) h = pulls_now x h
  by_ok (Err f) h = tt

  by_refused : (r : Result Pulled Full) → IfOk r (λ x. Pulls (pulled (codes_of old) old.pending) x old new) → IfErr r (λ full. RefusesLine full (settled_store ls old) new) → MatchResult r (λ _. pull_refusal old ≡ None) (λ full. pull_refusal old ≡ Some full)
  by_refused (Ok x) h g = fits_pulled old new x h
  by_refused (Err f) h g = refuses_now f g

  by_err : (r : Result Pulled Full) → IfErr r (λ full. RefusesLine full (settled_store ls old) new) → OnErr r (new.pending ≡ end_token_lists old.pending)
  by_err (Ok x) h = tt
  by_err (Err f) h = h.stays ∙ settled_twice old.pending

  module _ (mid : Stored) (r : Result Pulled Full) (is : mid ≡ settled_store ls old) where
    pub pull_ok : IfOk r (λ x. Pulls (from_file mid.pending mid.pending.file) x mid new) → IfOk r (λ x. Pulls (pulled (codes_of old) old.pending) x old new)
    pull_ok h = by_ok r (subst (λ (m : Stored). IfOk r (λ x. Pulls (from_file m.pending m.pending.file) x m new)) is h)

    pub pull_refused : IfOk r (λ x. Pulls (from_file mid.pending mid.pending.file) x mid new) → IfErr r (λ full. RefusesLine full mid new) → MatchResult r (λ _. pull_refusal old ≡ None) (λ full. pull_refusal old ≡ Some full)
    pull_refused h g = by_refused r (pull_ok h) (subst (λ (m : Stored). IfErr r (λ full. RefusesLine full m new)) is g)

    pub pull_err : IfErr r (λ full. RefusesLine full mid new) → OnErr r (new.pending ≡ end_token_lists old.pending)
    pull_err h = by_err r (subst (λ (m : Stored). IfErr r (λ full. RefusesLine full m new)) is h)

-- what the levels refuse is refused of all that is pending
pub front_refused : (h : HeldLists) (b : List ℕ) (file : FilesLeft) (old : Stored) → stored_of h b file ≡ old → length file.files ≡ length h.below → (r : Result Pulled Full) →
    ((files : List FileLeft) (next : Option (List ℕ)) → length files ≡ length h.below → MatchResult r (λ _. refused h.sizes (step_demands (pulled h.groups.now.categories (pending_of h b files next)) (pending_of h b files next)) ≡ None) (λ full. refused h.sizes (step_demands (pulled h.groups.now.categories (pending_of h b files next)) (pending_of h b files next)) ≡ Some full)) →
    MatchResult r (λ _. pull_refusal old ≡ None) (λ full. pull_refusal old ≡ Some full)
front_refused h b file old is tied r why = subst (λ (v : Stored). MatchResult r (λ _. pull_refusal v ≡ None) (λ full. pull_refusal v ≡ Some full)) is (why file.files file.next tied)

-- what is given and has room is read; no line is taken where something is left in front of the file
pub reads_of : (q : plain.Pulled) (x : Pulled) (sizes : Sizes) (end : ℤ) (p new : Pending) (bytes : List ℕ) → takes_file q ≡ false →
    Gives q x p new bytes → refused sizes (step_demands q p) ≡ None → Reads q x sizes end p new bytes
reads_of q (answer.Token t) sizes end p new bytes left h room = (h, sym (ap (λ (o : plain.Pulled). refused sizes (step_demands o p)) h) ∙ room)
reads_of q (answer.Lexeme l) sizes end p new bytes left h room = h
reads_of q answer.Taken sizes end p new bytes left h room = let taken = ap takes_file h in cc
reads_of q answer.Invalid sizes end p new bytes left h room = h
reads_of q answer.FileOver sizes end p new bytes left h room = h
reads_of q answer.Nothing sizes end p new bytes left h room = h

pub front_ok : (old new : Stored) (r : Result Pulled Full) → (ahead_of (codes_of old) old.pending ≡ ahead.End → ⊥) → GivesTo (pulled (codes_of old) old.pending) r old.pending new.pending new.buffer →
    MatchResult r (λ _. pull_refusal old ≡ None) (λ full. pull_refusal old ≡ Some full) → IfOk r (λ x. Pulls (pulled (codes_of old) old.pending) x old new)
front_ok old new (Ok x) left gives room =
    reads_of (pulled (codes_of old) old.pending) x old.sizes (end_of_line old.groups.now) old.pending new.pending new.buffer
    (in_front (codes_of old) old.pending left) gives room
front_ok old new (Err f) left gives room = tt

-- what keeps the lists of macros twice keeps them
pub keeps_twice : (old mid new : Stored) → KeepsShared old mid → KeepsShared mid new → new.groups ≡ mid.groups → ((id : ℕ) → is_put id (all_puts new.pending) ≡ true → is_put id (all_puts mid.pending) ≡ true) → KeepsLists (lists_held new.groups) (all_puts new.pending) old.lists new.lists
keeps_twice old mid new first second groups fewer = record {
  tokens = λ id is. second.tokens id is ∙ first.tokens id (either (is_listed (lists_held new.groups) id) (is_listed (lists_held mid.groups) id) (is_put id (all_puts new.pending)) (is_put id (all_puts mid.pending)) (ap (λ (g : Groups). is_listed (lists_held g) id) groups) (fewer id) is);
}
  where
    either : (a b c d : Bool) → a ≡ b → (c ≡ true → d ≡ true) → (a || c) ≡ true → (b || d) ≡ true
    either true true c d same less is = refl
    either true false c d same less is = cc
    either false true c d same less is = refl
    either false false c d same less is = less is

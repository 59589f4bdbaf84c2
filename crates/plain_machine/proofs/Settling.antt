-- The finished lists in front go at once: what comes next doesn't hang on whether they have gone.
use Rattle.std.proofs.Common.{◌≡◌, ℕ, Bool, true, false, List, [], ◌∷◌, refl, ap, ◌∙◌}
use Rattle.plain_tokens.specs.Lex.{Lexed, Gives, Invalid, UsedUp, lexed}
use Rattle.plain_tokens.specs.Puts.{Item, Put, without_ended, unless_ended, passed}
use Rattle.plain_tokens.specs.Pending.{Pending, Progress, Begun, Closed, end_token_lists, with_puts, pulled, from_front, from_list, from_line, from_begun, from_file}

passed_top_settled : (p : Put) (xs : List Item) (ps : List Put) → p.items ≡ xs → passed (without_ended ps) ≡ passed ps → passed (unless_ended p xs (without_ended ps) ps) ≡ passed (p ∷ ps)
passed_top_settled p [] ps e h = rw e h
passed_top_settled p (x ∷ xs) ps e h = refl

pub passed_settled : (ps : List Put) → passed (without_ended ps) ≡ passed ps
passed_settled [] = refl
passed_settled (p ∷ ps) = passed_top_settled p p.items ps refl (passed_settled ps)

settled_top_twice : (p : Put) (xs : List Item) (ps : List Put) → p.items ≡ xs → without_ended (without_ended ps) ≡ without_ended ps → without_ended (unless_ended p xs (without_ended ps) ps) ≡ unless_ended p xs (without_ended ps) ps
settled_top_twice p [] ps e h = h
settled_top_twice p (x ∷ xs) ps e h = rw e refl

pub settled_twice : (ps : List Put) → without_ended (without_ended ps) ≡ without_ended ps
settled_twice [] = refl
settled_twice (p ∷ ps) = settled_top_twice p p.items ps refl (settled_twice ps)

begun_with : (ps : List Put) (p : Pending) (ends : Bool) (bytes : List ℕ) → from_begun (with_puts ps p) ends bytes ≡ from_begun p ends bytes
begun_with ps p true bytes = refl
begun_with ps p false [] = refl
begun_with ps p false (c ∷ cs) = refl

file_with : (ps : List Put) (p : Pending) (file : Progress) → from_file (with_puts ps p) file ≡ from_file p file
file_with ps p Begun = begun_with ps p p.ends p.rest
file_with ps p Closed = refl

line_with : (ps : List Put) (p : Pending) (l : Lexed) → from_line (with_puts ps p) l ≡ from_line p l
line_with ps p (Gives x state line) = refl
line_with ps p (Invalid state line) = refl
line_with ps p UsedUp = file_with ps p p.file

list_with : (categories : List ℕ) (ps : List Put) (p : Pending) (x : Put) (qs : List Put) (is : List Item) → from_list categories (with_puts ps p) x qs is ≡ from_list categories p x qs is
list_with categories ps p x qs [] = line_with ps p (lexed categories p.lex p.line)
list_with categories ps p x qs (i ∷ is) = refl

front_with : (categories : List ℕ) (ps : List Put) (p : Pending) (qs : List Put) → from_front categories (with_puts ps p) qs ≡ from_front categories p qs
front_with categories ps p [] = line_with ps p (lexed categories p.lex p.line)
front_with categories ps p (x ∷ qs) = list_with categories ps p x qs x.items

pub pulled_settled : (categories : List ℕ) (p : Pending) → pulled categories (end_token_lists p) ≡ pulled categories p
pulled_settled categories p = ap (from_front categories (end_token_lists p)) (passed_settled p.puts) ∙ front_with categories (without_ended p.puts) p (passed p.puts)

-- A token that is put back.
use Rattle.std.proofs.Common.{◌≡◌, ℕ, ◌<◌, ◌≤◌, List, [], ◌∷◌, map, Option, None, refl, sym, ap, ◌∙◌, subst, arith}
use Rattle.tex_defs.specs.declared.Token.{Token}
use Rattle.tex_defs.specs.declared.Full.{Full}
use Rattle.token_lists.specs.Table.{Entry, holders_at, holders_of, entry_at}
use Rattle.token_lists.specs.Accounts.{none, Moves, Keeps, Covers}
use Rattle.input_stack.specs.Puts.{Put, Item, without_ended, unless_ended}
use Rattle.input_stack.specs.WholeLevel.{WholeLevel}
use Rattle.input_stack.specs.Pending.{Pending, with_puts, end_token_lists, put, plain_put, room, refusal, used_levels}
use Rattle.input_stack.specs.View.{pending_in, held_in}
use Rattle.input_stack.specs.Stacks.{AreRead}
use Rattle.input_stack.proofs.Kept.{Stay, pending_stays, read_stays}
use Rattle.input_stack.proofs.Pushed.{room_left}
use Rattle.input_stack.proofs.ListsEnded.{used_settle}

-- a list is begun, and what is held stays
joins : (old new : List (Option Entry)) (f g : ℕ → ℕ) → Covers old f → Moves old new none g → Keeps old new none → Stay old new f
joins old new f g covers moves keeps = record {
  tokens = λ h some. keeps.tokens h (omega (arith, some, covers h));
  places = λ h some. keeps.places h (omega (arith, some, covers h));
  held = λ h some. omega (arith, some, covers h, moves h);
}

pub begun_pending : (old new : List (Option Entry)) (ls : List WholeLevel) (g : ℕ → ℕ) (p : Pending) → AreRead old ls → Moves old new none g → Keeps old new none → pending_in old ls ≡ end_token_lists p → pending_in new ls ≡ end_token_lists p
begun_pending old new ls g p a moves keeps is = pending_stays old new ls (joins old new (held_in ls) g a.covers moves keeps) ∙ is

pub begun_read : (old new : List (Option Entry)) (ls : List WholeLevel) (g : ℕ → ℕ) → AreRead old ls → Moves old new none g → Keeps old new none → AreRead new ls
begun_read old new ls g a moves keeps = read_stays old new ls (joins old new (held_in ls) g a.covers moves keeps) (λ h. omega (arith, a.covers h, moves h)) a

top_twice : (p : Put) (xs : List Item) (below rest : List Put) → without_ended below ≡ below → without_ended (unless_ended p xs below rest) ≡ unless_ended p xs below rest
top_twice p [] below rest is = is
top_twice p (x ∷ xs) below rest is = refl

settled_twice : (ps : List Put) → without_ended (without_ended ps) ≡ without_ended ps
settled_twice [] = refl
settled_twice (p ∷ ps) = top_twice p p.items (without_ended ps) ps (settled_twice ps)

pub settle_twice : (p : Pending) → end_token_lists (end_token_lists p) ≡ end_token_lists p
settle_twice p = ap (λ (ps : List Put). with_puts ps p) (settled_twice p.puts)

pub put_back : (n : ℕ) (t : Token) (ts : List Token) (p q r : Pending) → ts ≡ t ∷ [] → q ≡ end_token_lists p → r ≡ put (plain_put n ts) q → r ≡ put (plain_put n (t ∷ [])) p
put_back n t ts p q r is at put_is =
    put_is ∙ ap (λ (us : List Token). put (plain_put n us) q) is ∙ ap (put (plain_put n (t ∷ []))) at
    ∙ ap (λ (ps : List Put). with_puts (plain_put n (t ∷ []) ∷ ps) p) (settled_twice p.puts)

pub back_refusal : (size m : ℕ) (t : Token) (ts : List Token) (p q : Pending) (o : Option Full) → ts ≡ t ∷ [] → q ≡ end_token_lists p → m ≡ size → refusal m (map Rattle.input_stack.specs.Puts.Text ts) q ≡ o → room size (used_levels p) ≡ o
back_refusal size m t ts p q o is at same r =
    let k : refusal m (map Rattle.input_stack.specs.Puts.Text (t ∷ [])) q ≡ o = subst (λ (us : List Token). refusal m (map Rattle.input_stack.specs.Puts.Text us) q ≡ o) is r in
    let u : used_levels q ≡ used_levels p = ap used_levels at ∙ used_settle p in
    ap (λ (n : ℕ). room size n) (sym u) ∙ ap (λ (n : ℕ). room n (used_levels q)) (sym same) ∙ k

pub back_room : (size m : ℕ) (t : Token) (ts : List Token) (p q : Pending) → ts ≡ t ∷ [] → q ≡ end_token_lists p → m ≡ size → refusal m (map Rattle.input_stack.specs.Puts.Text ts) q ≡ None → used_levels p < size
back_room size m t ts p q is at same r = room_left size (used_levels p) (back_refusal size m t ts p q None is at same r)

pub fresh_is : (old mid : List (Option Entry)) (f g : ℕ → ℕ) (n : ℕ) → Moves old mid f g → entry_at mid n ≡ None → holders_at old n ≤ f n
fresh_is old mid f g n moves new = omega (arith, moves n, ap holders_of new)

pub still_held : (mid begun new : List (Option Entry)) (n : ℕ) (ls : List WholeLevel) (g : ℕ → ℕ) → entry_at mid n ≡ None → AreRead mid ls → 0 < holders_at begun n → Moves begun new (held_in ls) g → 0 < holders_at new n
still_held mid begun new n ls g fresh a held moves = omega (arith, ap holders_of fresh, a.covers n, held, moves n)

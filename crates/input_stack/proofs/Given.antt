-- What the level on top gives is what is pulled.
use Rattle.std.proofs.Common.{zero, suc, ◌≡◌, Ok, Err, Bool, true, false, cond, ℕ, ◌+◌, ◌<◌, ◌≤◌, List, [], ◌∷◌, ◌++◌, map, length, Option, None, Some, refl, sym, ap, ap₂, ◌∙◌, subst, arith}
use Rattle.std.specs.Prelude.{Result, IsTrue}
use Rattle.std.proofs.lemmas.Option.{none-some}
use Rattle.std.proofs.lemmas.List.Elements.{All-head, All-tail, All-cons}
use Rattle.tex_defs.specs.declared.Token.{Token}
use Rattle.tex_defs.specs.declared.Full.{Full}
use Rattle.token_lists.specs.Table.{Entry, tokens_at, holders_at}
use Rattle.token_lists.specs.Accounts.{holds, Covers}
use Rattle.input_stack.specs.Puts.{Put, Item, Text, First, Later, Gap, first, without_gaps, flat, next_item, later_of, argument_of, without_ended, unless_ended, pulled, pulled_top}
use Rattle.input_stack.specs.CallViews.{put_of_call, met, is_opening, opened, Shares, IsCountable}
use Rattle.input_stack.specs.WholeLevel.{WholeLevel}
use Rattle.input_stack.specs.WholeLevel as level
use Rattle.input_stack.specs.declared.level.Pulled.{Pulled}
use Rattle.input_stack.specs.declared.level.Pulled.TheVariants as pulled_as
use Rattle.input_stack.specs.Rest.{number, rest, IsAt}
use Rattle.input_stack.specs.Lasting.{LastsBut}
use Rattle.input_stack.specs.Pending.{Pending, Below, with_puts, end_token_lists, plain_put, room, used_levels}
use Rattle.input_stack.specs.Pulls.{Pulls, PullsTop, Passes, token_in, is_line_end, HandsOn, refused_at, PullsItem, PullsFrom, IsInBuffer}
use Rattle.input_stack.specs.Levels.{LevelPulls, level_item, IsLevelInBuffer}
use Rattle.input_stack.specs.View.{pending_in, in_front, over, level_holds, level_open, held_in, IsSourceOnTop}
use Rattle.input_stack.specs.Stacks.{IsLevel, IsUnfinished, AreUnfinished, AreRead}
use Rattle.input_stack.proofs.Kept.{Stay, held_cons, pending_stays, levels_stay, unfinished_stay}
use Rattle.input_stack.proofs.ListsEnded.{used_settle}
use Rattle.input_stack.proofs.Backs.{settle_twice}
use Rattle.input_stack.proofs.Gaps.{next_top, pulled_is}
use Rattle.input_stack.proofs.Tops.{no_levels}

top_flat : (p : Put) (xs : List Item) (below rest : List Put) → flat below ≡ flat rest → flat (unless_ended p xs below rest) ≡ xs ++ flat rest
top_flat p [] below rest is = is
top_flat p (x ∷ xs) below rest is = refl

flat_settled : (ps : List Put) → flat (without_ended ps) ≡ flat ps
flat_settled [] = refl
flat_settled (p ∷ ps) = top_flat p p.items (without_ended ps) ps (flat_settled ps)

pub next_settled : (ps : List Put) → next_item (without_ended ps) ≡ next_item ps
next_settled ps = ap (λ (xs : List Item). first (without_gaps xs)) (flat_settled ps)

same_top : (p q : Put) (xs : List Item) (below rest : List Put) → q.list ≡ p.list → q.body ≡ p.body → q.arguments ≡ p.arguments → pulled_top q xs below rest ≡ pulled_top p xs below rest
same_top p q [] below rest a k b = refl
same_top p q (x ∷ xs) below rest a k b = rw (a, k, b) refl

top_pulled : (p : Put) (xs : List Item) (below rest : List Put) → pulled below ≡ pulled rest → pulled (unless_ended p xs below rest) ≡ pulled_top p (without_gaps xs) (pulled rest) rest
top_pulled p [] below rest is = is
top_pulled p (x ∷ xs) below rest is = same_top p (record { list = p.list; body = p.body; arguments = p.arguments; reading = later_of x; items = x ∷ xs }) (without_gaps (x ∷ xs)) (pulled rest) rest refl refl refl

pulled_settled : (ps : List Put) → pulled (without_ended ps) ≡ pulled ps
pulled_settled [] = refl
pulled_settled (p ∷ ps) = top_pulled p p.items (without_ended ps) ps (pulled_settled ps)

refused_settled : (size : ℕ) (x : Item) (p : Pending) → refused_at size x (end_token_lists p) ≡ refused_at size x p
refused_settled size (Text t) p = refl
refused_settled size (First n t) p = ap (room size) (used_settle p)
refused_settled size (Later n t) p = refl
refused_settled size Gap p = refl

hands_settled : (b d : List ℕ) (p q : Pending) (x : Item) (o : Option Full) (r : Result Pulled Full) → HandsOn b d (end_token_lists p) q x o r → HandsOn b d p q x o r
hands_settled b d p q x None r h = (h.0, h.1 ∙ ap (λ (ps : List Put). with_puts ps p) (pulled_settled p.puts), h.2)
hands_settled b d p q x (Some f) r h = (h.0, h.1 ∙ settle_twice p, h.2)

item_settled : (size : ℕ) (c b d : List ℕ) (p q : Pending) (o : Option Item) (r : Result Pulled Full) → PullsItem size c b d (end_token_lists p) q o r → PullsItem size c b d p q o r
item_settled size c b d p q None r h = h
item_settled size c b d p q (Some x) r h =
    hands_settled b d p q x (refused_at size x p) r (subst (λ (o : Option Full). HandsOn b d (end_token_lists p) q x o r) (refused_settled size x p) h)

pub pulls_settled : (size : ℕ) (c b d : List ℕ) (p q s : Pending) (r : Result Pulled Full) → s ≡ end_token_lists p → Pulls size c b d s q r → Pulls size c b d p q r
pulls_settled size c b d p q s r is h =
    let k : Pulls size c b d (end_token_lists p) q r = subst (λ (x : Pending). Pulls size c b d x q r) is h in
    item_settled size c b d p q (next_item p.puts) r (subst (λ (o : Option Item). PullsItem size c b d (end_token_lists p) q o r) (next_settled p.puts) k)

-- WHAT STANDS ON TOP

list_gives : (c b d : List ℕ) (n m : ℕ) (t : Token) (ts us : List Token) (q q' : Pending) (r : Pulled) → ts ≡ t ∷ us → m ≡ n → q' ≡ q → d ≡ b → r ≡ pulled_as.Token t → PullsTop c b d (in_front (plain_put n ts) q) (in_front (plain_put m us) q') (next_item (plain_put n ts ∷ q.puts)) r
list_gives c b d n m t [] us q q' r is same stays bytes answer = absurd (omega (arith, ap length is))
list_gives c b d n m t (v ∷ vs) us q q' r is same stays bytes answer =
    let head : v ≡ t = cc in
    let tail : vs ≡ us = cc in
    (answer ∙ ap (λ (x : Token). pulled_as.Token x) (sym head), ap₂ in_front (ap₂ plain_put same (sym tail)) stays, bytes)

call_gives : (c b d : List ℕ) (p p' : Put) (q q' : Pending) (x : Item) (left : List Item) (r : Pulled) → without_gaps p.items ≡ x ∷ left → p' ≡ record { list = p.list; body = p.body; arguments = p.arguments; reading = argument_of x; items = left } → q' ≡ q → d ≡ b → r ≡ pulled_as.Token (token_in x) → PullsTop c b d (in_front p q) (in_front p' q') (next_item (p ∷ q.puts)) r
call_gives c b d p p' q q' x left r is at stays bytes answer =
    let k : PullsTop c b d (in_front p q) (in_front p' q') (Some x) r = (answer, ap₂ in_front at stays ∙ ap (λ (ps : List Put). with_puts ps (in_front p q)) (sym (pulled_is p q.puts x left is)), bytes) in
    subst (λ (o : Option Item). PullsTop c b d (in_front p q) (in_front p' q') o r) (sym (next_top p q.puts x left is)) k

level_gives : (old new : List (Option Entry)) (c b d : List ℕ) (l l' : WholeLevel) (ls : List WholeLevel) (r : Pulled) → pending_in new ls ≡ pending_in old ls → LevelPulls old new c b d l l' r → PullsTop c b d (pending_in old (l ∷ ls)) (pending_in new (l' ∷ ls)) (next_item (pending_in old (l ∷ ls)).puts) r
level_gives old new c b d (level.List x) l' ls r stays h =
    let same : rest new h.reader ≡ rest old h.reader = ap (λ (t : List (Option Entry)). rest t h.reader) h.lists in
    let k = list_gives c b d (number x) (number h.reader) h.token (rest old x) (rest new h.reader) (pending_in old ls) (pending_in new ls) r (h.gives ∙ ap (λ (ts : List Token). h.token ∷ ts) (sym same)) h.same stays h.bytes h.answer in
    subst (λ (y : WholeLevel). PullsTop c b d (pending_in old (level.List x ∷ ls)) (pending_in new (y ∷ ls)) (next_item (pending_in old (level.List x ∷ ls)).puts) r) (sym h.is) k
level_gives old new c b d (level.Call x) l' ls r stays h =
    let k = call_gives c b d (put_of_call old x) (put_of_call new h.call) (pending_in old ls) (pending_in new ls) h.item h.left r h.next h.gives.after stays h.bytes h.answer in
    subst (λ (y : WholeLevel). PullsTop c b d (pending_in old (level.Call x ∷ ls)) (pending_in new (y ∷ ls)) (next_item (pending_in old (level.Call x ∷ ls)).puts) r) (sym h.is) k
level_gives old new c b d (level.Source x) l' ls r stays h =
    let q = pending_in old ls in
    let k : PullsTop c b d (over x q) (over h.source q) None r = (record { source = h.source; gives = h.gives; after = refl }, refl) in
    let m = subst (λ (z : Pending). PullsTop c b d (over x q) (over h.source z) None r) (sym stays) k in
    subst (λ (y : WholeLevel). PullsTop c b d (over x q) (pending_in new (y ∷ ls)) None r) (sym h.is) m

pub top_gives : (old new : List (Option Entry)) (c b d : List ℕ) (l l' : WholeLevel) (xs ys ls : List WholeLevel) (r : Pulled) → xs ≡ l ∷ ls → ys ≡ l' ∷ ls → pending_in new ls ≡ pending_in old ls → LevelPulls old new c b d l l' r → PullsTop c b d (pending_in old xs) (pending_in new ys) (next_item (pending_in old xs).puts) r
top_gives old new c b d l l' xs ys ls r is at stays h =
    let k = level_gives old new c b d l l' ls r stays h in
    let m = subst (λ (zs : List WholeLevel). PullsTop c b d (pending_in old zs) (pending_in new (l' ∷ ls)) (next_item (pending_in old zs).puts) r) (sym is) k in
    subst (λ (zs : List WholeLevel). PullsTop c b d (pending_in old xs) (pending_in new zs) (next_item (pending_in old xs).puts) r) (sym at) m

-- HELD

plain_opened : (ts : List Token) (h : ℕ) → opened (first (map Text ts)) h ≡ 0
plain_opened [] h = refl
plain_opened (t ∷ ts) h = refl

plain_opening : (ts : List Token) → is_opening (met (first (map Text ts))) ≡ false
plain_opening [] = refl
plain_opening (t ∷ ts) = refl

same_shares : (old new : List (Option Entry)) (more : ℕ → ℕ) → new ≡ old → ((h : ℕ) → more h ≡ 0) → Shares old new more
same_shares old new more is zeros = subst (λ (t : List (Option Entry)). Shares old t more) (sym is) (record {
  size = refl;
  tokens = λ h. refl;
  places = λ h. refl;
  holders = λ h. omega (arith, zeros h);
  held = λ h some. absurd (omega (arith, some, zeros h));
})

pub level_shares : (old new : List (Option Entry)) (c b d : List ℕ) (l l' : WholeLevel) (r : Pulled) → LevelPulls old new c b d l l' r → Shares old new (opened (level_item old l))
level_shares old new c b d (level.List x) l' r h = same_shares old new (opened (first (map Text (rest old x)))) h.lists (plain_opened (rest old x))
level_shares old new c b d (level.Call x) l' r h = subst (λ (xs : List Item). Shares old new (opened (first xs))) (sym h.next) h.gives.shares
level_shares old new c b d (level.Source x) l' r h = same_shares old new (opened None) h.lists (λ k. refl)

pub level_held : (old new : List (Option Entry)) (c b d : List ℕ) (l l' : WholeLevel) (r : Pulled) → LevelPulls old new c b d l l' r → (h : ℕ) → level_holds l' h ≡ level_holds l h + opened (level_item old l) h
level_held old new c b d (level.List x) l' r g h = omega (arith, ap (λ (y : WholeLevel). level_holds y h) g.is, ap (λ (n : ℕ). holds n h) g.same, plain_opened (rest old x) h)
level_held old new c b d (level.Call x) l' r g h = omega (arith, ap (λ (y : WholeLevel). level_holds y h) g.is, g.gives.held h, ap (λ (xs : List Item). opened (first xs) h) g.next)
level_held old new c b d (level.Source x) l' r g h = omega (arith, ap (λ (y : WholeLevel). level_holds y h) g.is)

pub level_opens : (old new : List (Option Entry)) (c b d : List ℕ) (l l' : WholeLevel) (r : Pulled) → LevelPulls old new c b d l l' r → level_open l' ≡ level_open l + cond (is_opening (met (level_item old l))) 1 0
level_opens old new c b d (level.List x) l' r g = omega (arith, ap level_open g.is, ap {B = ℕ} (λ (t : Bool). cond t 1 0) (plain_opening (rest old x)))
level_opens old new c b d (level.Call x) l' r g = omega (arith, ap level_open g.is, g.gives.levels, ap {B = ℕ} (λ (xs : List Item). cond (is_opening (met (first xs))) 1 0) g.next)
level_opens old new c b d (level.Source x) l' r g = omega (arith, ap level_open g.is)

level_stands : (old new : List (Option Entry)) (c b d : List ℕ) (l l' : WholeLevel) (r : Pulled) → LevelPulls old new c b d l l' r → IsLevel new l'
level_stands old new c b d (level.List x) l' r g = subst (IsLevel new) (sym g.is) (subst (λ (t : List (Option Entry)). IsAt t g.reader) (sym g.lists) g.at_next)
level_stands old new c b d (level.Call x) l' r g = subst (IsLevel new) (sym g.is) g.gives.stands
level_stands old new c b d (level.Source x) l' r g = subst (IsLevel new) (sym g.is) tt

-- where lists have more holders, all levels stay
pub shares_stay : (old new : List (Option Entry)) (more f : ℕ → ℕ) → Covers old f → Shares old new more → Stay old new f
shares_stay old new more f covers s = record {
  tokens = λ h some. s.tokens h;
  places = λ h some. s.places h;
  held = λ h some. omega (arith, some, covers h, s.holders h);
}

module _ (old new : List (Option Entry)) (c b d : List ℕ) (l l' : WholeLevel) (xs ys ls : List WholeLevel) (r : Pulled) (is : xs ≡ l ∷ ls) (at : ys ≡ l' ∷ ls) (h : LevelPulls old new c b d l l' r) (a : AreRead old xs) where
  whole : AreRead old (l ∷ ls)
  whole = subst (AreRead old) is a

  below : AreUnfinished old ls
  below = whole.below

  stays : Stay old new (held_in ls)
  stays = shares_stay old new (opened (level_item old l)) (held_in ls) (λ k. omega (arith, whole.covers k, held_cons l ls k)) (level_shares old new c b d l l' r h)

  pub beneath_stays : pending_in new ls ≡ pending_in old ls
  beneath_stays = pending_stays old new ls stays

  pub top_held : (k : ℕ) → held_in ys k ≡ held_in xs k + opened (level_item old l) k
  top_held k = omega (arith, ap (λ (zs : List WholeLevel). held_in zs k) is, ap (λ (zs : List WholeLevel). held_in zs k) at, held_cons l ls k, held_cons l' ls k, level_held old new c b d l l' r h k)

  pub top_read : AreRead new ys
  top_read =
      let m : AreRead new (l' ∷ ls) = record {
        levels = All-cons (IsLevel new) l' ls (level_stands old new c b d l l' r h) (levels_stay old new ls stays (All-tail (IsLevel old) l ls whole.levels));
        below = unfinished_stay old new ls stays below;
        covers = λ k. omega (arith, whole.covers k, held_cons l ls k, held_cons l' ls k, level_held old new c b d l l' r h k, (level_shares old new c b d l l' r h).holders k);
      } in
      subst (AreRead new) (sym at) m

pub top_unfinished : (table : List (Option Entry)) (xs ls : List WholeLevel) (l : WholeLevel) → xs ≡ l ∷ ls → AreUnfinished table xs → IsUnfinished table l
top_unfinished table xs ls l is a = All-head (IsUnfinished table) l ls (subst (λ (ys : List WholeLevel). AreUnfinished table ys) is a)

in_buffer : (table : List (Option Entry)) (l : WholeLevel) (ls : List WholeLevel) (n : ℕ) → IsInBuffer (pending_in table (l ∷ ls)).sources n → IsLevelInBuffer l n
in_buffer table (level.List r) ls n h = tt
in_buffer table (level.Call c) ls n h = tt
in_buffer table (level.Source s) ls n h = h

pub top_in_buffer : (table : List (Option Entry)) (l : WholeLevel) (xs ls : List WholeLevel) (n : ℕ) → xs ≡ l ∷ ls → IsInBuffer (pending_in table xs).sources n → IsLevelInBuffer l n
top_in_buffer table l xs ls n is h = in_buffer table l ls n (subst (λ (ys : List WholeLevel). IsInBuffer (pending_in table ys).sources n) is h)

pub bottom_top : (old : List (Option Entry)) (c b : List ℕ) (xs : List WholeLevel) → length xs ≡ 0 → PullsTop c b b (pending_in old xs) (pending_in old xs) (next_item (pending_in old xs).puts) pulled_as.Bottom
bottom_top old c b xs none =
    let nothing : Pending = record { puts = []; sources = [] } in
    let k : PullsTop c b b nothing nothing None pulled_as.Bottom = ((refl, refl, refl), refl) in
    subst (λ (ys : List WholeLevel). PullsTop c b b (pending_in old ys) (pending_in old ys) (next_item (pending_in old ys).puts) pulled_as.Bottom) (sym (no_levels xs none)) k

pub bottom_opened : (old : List (Option Entry)) (xs : List WholeLevel) → length xs ≡ 0 → (h : ℕ) → opened (next_item (pending_in old xs).puts) h ≡ 0
bottom_opened old xs none h = ap (λ (ys : List WholeLevel). opened (next_item (pending_in old ys).puts) h) (no_levels xs none)

pub none_shares : (old : List (Option Entry)) (xs : List WholeLevel) → length xs ≡ 0 → Shares old old (opened (next_item (pending_in old xs).puts))
none_shares old xs none = same_shares old old (opened (next_item (pending_in old xs).puts)) refl (bottom_opened old xs none)

-- WHAT IS PULLED

passes_item : (c b d : List ℕ) (p1 p2 q : Pending) (o : Option Item) (r : Pulled) → Passes p1 p2 → PullsTop c b d p2 q o r → PullsTop c b d p1 q o r
passes_item c b d p1 p2 q (Some x) r passes h = (h.0, h.1 ∙ ap₂ (λ (ps : List Put) (bs : List Below). record { puts = ps; sources = bs }) passes.pulled passes.sources, h.2)
passes_item c b d p1 p2 q None r passes h = (subst (λ (bs : List Below). PullsFrom c b d bs q.sources r) passes.sources h.0, h.1)

top_item : (size : ℕ) (c b d : List ℕ) (p q : Pending) (o : Option Item) (r : Pulled) → (is_opening (met o) ≡ true → room size (used_levels p) ≡ None) → PullsTop c b d p q o r → PullsItem size c b d p q o (Ok r)
top_item size c b d p q None r some h = (h, refl)
top_item size c b d p q (Some (Text t)) r some h = (ap (λ (x : Pulled). Ok x) h.0, h.1, h.2)
top_item size c b d p q (Some (First n t)) r some h = subst (λ (f : Option Full). HandsOn b d p q (First n t) f (Ok r)) (sym (some refl)) (ap (λ (x : Pulled). Ok x) h.0, h.1, h.2)
top_item size c b d p q (Some (Later n t)) r some h = (ap (λ (x : Pulled). Ok x) h.0, h.1, h.2)
top_item size c b d p q (Some Gap) r some h = (ap (λ (x : Pulled). Ok x) h.0, h.1, h.2)

pub has_room : (opening : Bool) (o : Option Full) → cond opening o None ≡ None → opening ≡ true → o ≡ None
has_room true o is t = is
has_room false o is t = cc

-- an item is handed on, or the innermost line gives something
pub pull_ok : (size n : ℕ) (c b d : List ℕ) (p p1 p2 q : Pending) (r : Pulled) (opening : Bool) → p1 ≡ end_token_lists p → Passes p1 p2 → opening ≡ is_opening (met (next_item p1.puts)) → n ≡ used_levels p → cond opening (room size n) None ≡ None → PullsTop c b d p2 q (next_item p2.puts) r → Pulls size c b d p q (Ok r)
pull_ok size n c b d p p1 p2 q r opening at passes is used free h =
    let k = passes_item c b d p1 p2 q (next_item p1.puts) r passes (subst (λ (o : Option Item). PullsTop c b d p2 q o r) passes.next h) in
    let levels : used_levels p1 ≡ n = ap used_levels at ∙ used_settle p ∙ sym used in
    pulls_settled size c b d p q p1 (Ok r) at (top_item size c b d p1 q (next_item p1.puts) r (λ t. ap (room size) levels ∙ has_room opening (room size n) free (is ∙ t)) k)

err_item : (size : ℕ) (c b : List ℕ) (p q : Pending) (o : Option Item) (f : Full) → is_opening (met o) ≡ true → room size (used_levels p) ≡ Some f → q ≡ end_token_lists p → PullsItem size c b b p q o (Err f)
err_item size c b p q None f t is after = cc
err_item size c b p q (Some (Text u)) f t is after = cc
err_item size c b p q (Some (First n u)) f t is after = subst (λ (g : Option Full). HandsOn b b p q (First n u) g (Err f)) (sym is) (refl, after, refl)
err_item size c b p q (Some (Later n u)) f t is after = cc
err_item size c b p q (Some Gap) f t is after = cc

refused_by : (opening : Bool) (o : Option Full) (f : Full) → cond opening o None ≡ Some f → (opening ≡ true) × (o ≡ Some f)
refused_by true o f is = (refl, is)
refused_by false o f is = absurd (none-some f is)

-- an argument's level has no room
pub pull_err : (size n : ℕ) (c b : List ℕ) (p p1 : Pending) (f : Full) (opening : Bool) → p1 ≡ end_token_lists p → opening ≡ is_opening (met (next_item p1.puts)) → n ≡ used_levels p → cond opening (room size n) None ≡ Some f → Pulls size c b b p p1 (Err f)
pull_err size n c b p p1 f opening at is used full =
    let k = refused_by opening (room size n) f full in
    let levels : used_levels p1 ≡ n = ap used_levels at ∙ used_settle p ∙ sym used in
    pulls_settled size c b b p p1 p1 (Err f) at (err_item size c b p1 p1 (next_item p1.puts) f (sym is ∙ k.0) (ap (room size) levels ∙ k.1) (at ∙ sym (settle_twice p) ∙ ap end_token_lists (sym at)))

-- an argument's level that opens has room
pub opening_fits : (opening : Bool) (len lv size more other : ℕ) → more ≡ cond opening 1 0 → (IsTrue opening → len + lv < size) → len + lv ≤ size → other ≡ len → other + (lv + more) ≤ size
opening_fits true len lv size more other is free within same = omega (arith, is, free refl, same)
opening_fits false len lv size more other is free within same = omega (arith, is, within, same)

-- COUNTS THAT MAY GROW

countable_less : (old new : List (Option Entry)) (o : Option Item) → ((h : ℕ) → holders_at new h ≤ holders_at old h) → IsCountable old o → IsCountable new o
countable_less old new None fewer a = tt
countable_less old new (Some (Text t)) fewer a = tt
countable_less old new (Some (First n t)) fewer a = omega (arith, fewer n, a)
countable_less old new (Some (Later n t)) fewer a = tt
countable_less old new (Some Gap) fewer a = tt

pub countable_stays : (old new : List (Option Entry)) (o p : Option Item) → ((h : ℕ) → holders_at new h ≤ holders_at old h) → p ≡ o → IsCountable old o → IsCountable new p
countable_stays old new o p fewer is a = subst (IsCountable new) (sym is) (countable_less old new o fewer a)

pub next_same : (p p1 p2 : Pending) → p1 ≡ end_token_lists p → Passes p1 p2 → next_item p2.puts ≡ next_item p.puts
next_same p p1 p2 at passes = passes.next ∙ ap (λ (x : Pending). next_item x.puts) at ∙ next_settled p.puts

held_before : (more held : ℕ) → 0 < held + more → (0 < more → 0 < held) → 0 < held
held_before zero held some more = omega (arith, some)
held_before (suc n) held some more = more (omega arith)

-- what stays as it was, but for one more holder
pub lasts_but : (old mid new : List (Option Entry)) (more other : ℕ → ℕ) → ((h : ℕ) → more h ≡ other h) → length mid ≡ length old → ((h : ℕ) → holders_at mid h ≤ holders_at old h) → ((h : ℕ) → 0 < holders_at mid h → tokens_at mid h ≡ tokens_at old h) → Shares mid new more → LastsBut old new other
lasts_but old mid new more other same size fewer tokens s = record {
  size = s.size ∙ size;
  fewer = λ h. omega (arith, s.holders h, fewer h, same h);
  tokens = λ h some. s.tokens h ∙ tokens h (held_before (more h) (holders_at mid h) (omega (arith, some, s.holders h)) (s.held h));
}

hands_in_buffer : (b d : List ℕ) (p q : Pending) (x : Item) (o : Option Full) (r : Result Pulled Full) (n : ℕ) → HandsOn b d p q x o r → IsInBuffer p.sources n → IsInBuffer q.sources n
hands_in_buffer b d p q x None r n h k = subst (λ (s : Pending). IsInBuffer s.sources n) (sym h.1) k
hands_in_buffer b d p q x (Some f) r n h k = subst (λ (s : Pending). IsInBuffer s.sources n) (sym h.1) k

from_in_buffer : (c b d : List ℕ) (bs after : List Below) (r : Pulled) (n : ℕ) → PullsFrom c b d bs after r → IsInBuffer bs n → IsInBuffer after n
from_in_buffer c b d [] after r n h k = subst (λ (xs : List Below). IsInBuffer xs n) (sym h.1) tt
from_in_buffer c b d (x ∷ xs) after r n h k =
    let g = h.gives.goes_on in
    subst (λ (ys : List Below). IsInBuffer ys n) (sym h.after) (g.in_order, omega (arith, g.same_end, k.1))

item_in_buffer : (size : ℕ) (c b d : List ℕ) (p q : Pending) (o : Option Item) (r : Result Pulled Full) (n : ℕ) → PullsItem size c b d p q o r → IsInBuffer p.sources n → IsInBuffer q.sources n
item_in_buffer size c b d p q (Some x) r n h k = hands_in_buffer b d p q x (refused_at size x p) r n h k
item_in_buffer size c b d p q None (Ok r) n h k = from_in_buffer c b d p.sources q.sources r n h.0.0 k
item_in_buffer size c b d p q None (Err f) n h k =
    let e = h.1 in
    cc

pub pulls_in_buffer : (size : ℕ) (c b d : List ℕ) (p q : Pending) (r : Result Pulled Full) (n m : ℕ) → m ≡ n → Pulls size c b d p q r → IsInBuffer p.sources n → IsInBuffer q.sources m
pulls_in_buffer size c b d p q r n m same h k = subst (λ (i : ℕ). IsInBuffer q.sources i) (sym same) (item_in_buffer size c b d p q (next_item p.puts) r n h k)

from_line_end : (c b d : List ℕ) (bs after : List Below) (r : Pulled) → is_line_end (Ok r) ≡ true → PullsFrom c b d bs after r → 0 < length after
from_line_end c b d [] after r is h =
    let e = ap (λ (x : Pulled). is_line_end (Ok x)) (sym h.0) ∙ is in
    cc
from_line_end c b d (x ∷ xs) after r is h = omega (arith, ap length h.after)

hands_line_end : (b d : List ℕ) (p q : Pending) (x : Item) (o : Option Full) (r : Result Pulled Full) → is_line_end r ≡ true → HandsOn b d p q x o r → ⊥
hands_line_end b d p q x None r is h =
    let e = ap is_line_end (sym h.0) ∙ is in
    cc
hands_line_end b d p q x (Some f) r is h =
    let e = ap is_line_end (sym h.0) ∙ is in
    cc

item_line_end : (size : ℕ) (c b d : List ℕ) (p q : Pending) (o : Option Item) (r : Result Pulled Full) → is_line_end r ≡ true → PullsItem size c b d p q o r → (q.puts ≡ []) × (0 < length q.sources)
item_line_end size c b d p q None (Ok r) is h = (h.0.1, from_line_end c b d p.sources q.sources r is h.0.0)
item_line_end size c b d p q None (Err f) is h = cc
item_line_end size c b d p q (Some x) r is h = absurd (hands_line_end b d p q x (refused_at size x p) r is h)

pub on_top : (table : List (Option Entry)) (ls : List WholeLevel) → (pending_in table ls).puts ≡ [] → 0 < length (pending_in table ls).sources → IsSourceOnTop ls
on_top table [] a b = absurd (omega (arith, b))
on_top table (level.List r ∷ ls) a b = absurd (omega (arith, ap length a))
on_top table (level.Call c ∷ ls) a b = absurd (omega (arith, ap length a))
on_top table (level.Source s ∷ ls) a b = tt

pub pulls_on_top : (table : List (Option Entry)) (size : ℕ) (c b d : List ℕ) (p : Pending) (ls : List WholeLevel) (r : Result Pulled Full) → is_line_end r ≡ true → Pulls size c b d p (pending_in table ls) r → IsSourceOnTop ls
pulls_on_top table size c b d p ls r is h =
    let k = item_line_end size c b d p (pending_in table ls) (next_item p.puts) r is h in
    on_top table ls k.0 k.1

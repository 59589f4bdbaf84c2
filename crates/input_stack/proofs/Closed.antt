-- An argument's level of which no token is left goes.
use Rattle.std.proofs.Common.{◌≡◌, ℕ, ◌+◌, ◌-◌, ◌<◌, ◌≤◌, List, [], ◌∷◌, ◌++◌, map, length, Option, None, Some, Bool, true, false, cond, refl, sym, ap, ◌∙◌, subst, arith}
use Rattle.std.specs.Prelude.{slice_get}
use Rattle.std.proofs.lemmas.Option.{none-some}
use Rattle.std.proofs.lemmas.List.Elements.{All-head, All-tail, All-cons}
use Rattle.tex_defs.specs.declared.Token.{Token}
use Rattle.tex_defs.specs.declared.Token.TheVariants.{Char, Named, Marked, Place, Number, EndPlaces}
use Rattle.token_lists.specs.Table.{Entry, holders_at}
use Rattle.token_lists.specs.Accounts.{none, Moves, Keeps}
use Rattle.input_stack.specs.declared.reader.Reader.{Reader}
use Rattle.input_stack.specs.Whole.{WholeCall}
use Rattle.input_stack.specs.WholeLevel.{WholeLevel}
use Rattle.input_stack.specs.WholeLevel as level
use Rattle.input_stack.specs.Puts.{Item, Put, Text, Later, is_empty, is_finished}
use Rattle.input_stack.specs.Calls.{Argument, spread, placed_argument, token_items, substituted}
use Rattle.input_stack.specs.Rest.{number, rest}
use Rattle.input_stack.specs.Pending.{Pending, end_token_lists}
use Rattle.input_stack.specs.CallViews.{cells_in, open_items, open_tokens, open_number, open_holds, call_holds, items_of, put_of_call, IsCall, IsSettled, Closes}
use Rattle.input_stack.specs.Levels.{LevelCloses, is_level_finished}
use Rattle.input_stack.specs.View.{pending_in, in_front, level_holds, level_open, held_in}
use Rattle.input_stack.specs.Stacks.{IsLevel, IsUnfinished, AreUnfinished, AreRead}
use Rattle.input_stack.proofs.CallKept.{call_same, call_stands}
use Rattle.input_stack.proofs.Kept.{Stay, leave, held_cons, pending_stays, levels_stay, unfinished_stay}
use Rattle.input_stack.proofs.ListsEnded.{head_settle, closed_settle}

-- A BODY'S ITEMS

spread_settled : (l : ℕ) (ts : List Token) (ys : List Item) → IsSettled None (spread l ts ++ ys)
spread_settled l [] ys = refl
spread_settled l (t ∷ ts) ys = refl

placed_settled : (n : ℕ) (o : Option (Option Argument)) (ys : List Item) → IsSettled None (placed_argument n o ++ ys)
placed_settled n None ys = refl
placed_settled n (Some None) ys = refl
placed_settled n (Some (Some a)) ys = spread_settled a.list a.tokens ys

token_settled : (args : List (Option Argument)) (t : Token) (ys : List Item) → IsSettled None (token_items args t ++ ys)
token_settled args (Char cat code) ys = refl
token_settled args (Named name) ys = refl
token_settled args (Marked name) ys = refl
token_settled args (Place c) ys = refl
token_settled args (Number n) ys = placed_settled n (slice_get args (n - 1)) ys
token_settled args EndPlaces ys = refl

-- no further token of an argument is in front of a body
pub body_settled : (args : List (Option Argument)) (ts : List Token) → is_empty (substituted args ts) ≡ false → IsSettled None (substituted args ts)
body_settled args [] is = cc
body_settled args (t ∷ ts) is = token_settled args t (substituted args ts)

later_settled : (n : ℕ) (ts : List Token) (ys : List Item) → (ts ≡ [] → ⊥) → IsSettled (Some n) (map (Later n) ts ++ ys)
later_settled n [] ys some = absurd (some refl)
later_settled n (t ∷ ts) ys some = refl

-- an argument's level is open where its tokens are in front
open_settled : (table : List (Option Entry)) (o : Option Reader) (args : List (Option Argument)) (ts : List Token) → is_empty (open_items table o ++ substituted args ts) ≡ false → (open_tokens table o ≡ [] → o ≡ None) → IsSettled (open_number o) (open_items table o ++ substituted args ts)
open_settled table None args ts is closed = body_settled args ts is
open_settled table (Some r) args ts is closed = later_settled (number r) (rest table r) (substituted args ts) (λ nothing. absurd (none-some r (sym (closed nothing))))

no_open : (table : List (Option Entry)) (o : Option Reader) → open_tokens table o ≡ [] → open_items table o ≡ []
no_open table None is = refl
no_open table (Some r) is = ap (map (Later (number r))) is

-- A CALL

module _ (old new : List (Option Entry)) (c : WholeCall) (f : ℕ → ℕ) (covers : (h : ℕ) → call_holds c h + f h ≤ holders_at old h) (call : IsCall old c) (some : is_empty (items_of old c) ≡ false) (tokens : open_tokens old c.argument ≡ []) (moves : Moves old new (open_holds c.argument) none) (keeps : Keeps old new (open_holds c.argument)) where
  abbrev after : WholeCall
  after = record { body = c.body; argument = None; args = c.args }

  stays : Stay old new (λ h. call_holds after h + f h)
  stays = leave old new (open_holds c.argument) none (λ h. call_holds after h + f h) (λ h. omega (arith, covers h)) moves keeps

  same : put_of_call new after ≡ put_of_call old after
  same = call_same old new after (λ h one. stays.tokens h (omega (arith, one)))

  items : items_of old after ≡ items_of old c
  items = ap (λ (xs : List Item). xs ++ substituted (cells_in old c.args) (rest old c.body)) (sym (no_open old c.argument tokens))

  settled : IsSettled None (items_of old after)
  settled = body_settled (cells_in old c.args) (rest old c.body) (ap is_empty items ∙ some)

  pub closed_stands : IsCall new after
  closed_stands = call_stands old new (λ h. call_holds after h + f h) stays.tokens stays.places stays.held after (λ h. omega arith) (record { body = call.body; argument = tt; held = call.held })

  pub closed_unfinished : IsSettled None (items_of new after)
  closed_unfinished = subst (λ (p : Put). IsSettled None p.items) (sym same) settled

  pub closed_pending : (q : Pending) → in_front (put_of_call new after) q ≡ end_token_lists (in_front (put_of_call old c) q)
  closed_pending q = ap (λ (p : Put). in_front p q) same ∙ sym (closed_settle (put_of_call old c) (put_of_call old after) q refl refl refl items (subst (IsSettled None) items settled))

-- LEVELS

-- what becomes of a level on top, and of the others
pub record IsClosed (old new : List (Option Entry)) (l l' : WholeLevel) (ls : List WholeLevel) (b : Bool) : Type 0 where
  pub level : IsLevel new l'
  pub unfinished : IsUnfinished new l'
  pub after : pending_in new (l' ∷ ls) ≡ end_token_lists (pending_in old (l ∷ ls))
  pub levels : level_open l ≡ level_open l' + cond b 1 0
  pub stays : Stay old new (held_in ls)
  pub moves : Moves old new (level_holds l) (level_holds l')
  pub kept : Keeps old new (level_holds l)

none_closed : (old new : List (Option Entry)) (l l' : WholeLevel) (ls : List WholeLevel) (b : Bool) → new ≡ old → l' ≡ l → b ≡ false → IsLevel old l → IsUnfinished old l → ((h : ℕ) → held_in ls h ≤ holders_at old h) → IsClosed old new l l' ls b
none_closed old new l l' ls b is stay nope a u covers =
    let k : IsClosed old old l l ls false = record {
      level = a;
      unfinished = u;
      after = sym (head_settle old l ls u);
      levels = omega arith;
      stays = record { tokens = λ h one. refl; places = λ h one. refl; held = λ h one. omega (arith, one, covers h) };
      moves = λ h. refl;
      kept = record { tokens = λ h one. refl; places = λ h one. refl };
    } in
    let m = subst (λ (x : WholeLevel). IsClosed old old l x ls false) (sym stay) k in
    let n = subst (λ (x : Bool). IsClosed old old l l' ls x) (sym nope) m in
    subst (λ (t : List (Option Entry)). IsClosed old t l l' ls b) (sym is) n

some_left : (ts : List Token) → is_empty (map Text ts) ≡ false → 0 < length ts
some_left [] is = cc
some_left (t ∷ ts) is = omega arith

call_closed : (old new : List (Option Entry)) (c c' : WholeCall) (ls : List WholeLevel) (b : Bool) → Closes old new c c' b → IsCall old c → is_empty (items_of old c) ≡ false → ((h : ℕ) → call_holds c h + held_in ls h ≤ holders_at old h) → IsClosed old new (level.Call c) (level.Call c') ls b
call_closed old new c c' ls false h call some covers =
    none_closed old new (level.Call c) (level.Call c') ls false h.0 (ap (λ (x : WholeCall). level.Call x) h.1) refl call (open_settled old c.argument (cells_in old c.args) (rest old c.body) some h.2) (λ k. omega (arith, covers k))
call_closed old new c c' ls true h call some covers =
    let stays = leave old new (open_holds c.argument) none (held_in ls) (λ k. omega (arith, covers k)) h.3 h.4 in
    let q = pending_stays old new ls stays in
    let k : IsClosed old new (level.Call c) (level.Call (record { body = c.body; argument = None; args = c.args })) ls true = record {
      level = closed_stands old new c (held_in ls) covers call some h.1 h.3 h.4;
      unfinished = closed_unfinished old new c (held_in ls) covers call some h.1 h.3 h.4;
      after = ap (in_front (put_of_call new (record { body = c.body; argument = None; args = c.args }))) q ∙ closed_pending old new c (held_in ls) covers call some h.1 h.3 h.4 (pending_in old ls);
      levels = omega (arith, h.2);
      stays = stays;
      moves = λ k. omega (arith, h.3 k);
      kept = record { tokens = λ k less. h.4.tokens k (omega (arith, less)); places = λ k less. h.4.places k (omega (arith, less)) };
    } in
    subst (λ (x : WholeCall). IsClosed old new (level.Call c) (level.Call x) ls true) (sym h.0) k

pub level_closed : (old new : List (Option Entry)) (l l' : WholeLevel) (ls : List WholeLevel) (b : Bool) → LevelCloses old new l l' b → AreRead old (l ∷ ls) → is_level_finished old l ≡ false → IsClosed old new l l' ls b
level_closed old new (level.List r) l' ls b h a some = none_closed old new (level.List r) l' ls b h.1 h.0 h.2 (All-head (IsLevel old) (level.List r) ls a.levels) (some_left (rest old r) some) (λ k. omega (arith, a.covers k, held_cons (level.List r) ls k))
level_closed old new (level.Call c) l' ls b h a some =
    let k = call_closed old new c h.call ls b h.closes (All-head (IsLevel old) (level.Call c) ls a.levels) some (λ k. omega (arith, a.covers k, held_cons (level.Call c) ls k)) in
    subst (λ (x : WholeLevel). IsClosed old new (level.Call c) x ls b) (sym h.is) k
level_closed old new (level.Source s) l' ls b h a some = none_closed old new (level.Source s) l' ls b h.1 h.0 h.2 tt tt (λ k. omega (arith, a.covers k, held_cons (level.Source s) ls k))

level_unfinished : (table : List (Option Entry)) (l : WholeLevel) (ls : List WholeLevel) → is_finished (pending_in table (l ∷ ls)).puts ≡ false → is_level_finished table l ≡ false
level_unfinished table (level.List r) ls is = is
level_unfinished table (level.Call c) ls is = is
level_unfinished table (level.Source s) ls is = refl

pub top_closed : (old new : List (Option Entry)) (l l' : WholeLevel) (xs ls : List WholeLevel) (b : Bool) → xs ≡ l ∷ ls → LevelCloses old new l l' b → AreRead old xs → is_finished (pending_in old xs).puts ≡ false → IsClosed old new l l' ls b
top_closed old new l l' xs ls b is h a some =
    level_closed old new l l' ls b h (subst (AreRead old) is a) (level_unfinished old l ls (ap (λ (ys : List WholeLevel). is_finished (pending_in old ys).puts) (sym is) ∙ some))

-- all levels, once the one on top has closed
module _ (old new : List (Option Entry)) (l l' : WholeLevel) (xs ys ls : List WholeLevel) (b : Bool) (is : xs ≡ l ∷ ls) (at : ys ≡ l' ∷ ls) (k : IsClosed old new l l' ls b) (a : AreRead old xs) where
  whole : AreRead old (l ∷ ls)
  whole = subst (AreRead old) is a

  below : AreUnfinished new ls
  below = unfinished_stay old new ls k.stays whole.below

  pub closed_read : AreRead new ys
  closed_read =
      let m : AreRead new (l' ∷ ls) = record {
        levels = All-cons (IsLevel new) l' ls k.level (levels_stay old new ls k.stays (All-tail (IsLevel old) l ls whole.levels));
        below = below;
        covers = λ h. omega (arith, whole.covers h, held_cons l ls h, held_cons l' ls h, k.moves h);
      } in
      subst (AreRead new) (sym at) m

  pub closed_all : AreUnfinished new ys
  closed_all = subst (AreUnfinished new) (sym at) (All-cons (IsUnfinished new) l' ls k.unfinished below)

  pub closed_after : pending_in new ys ≡ end_token_lists (pending_in old xs)
  closed_after = ap (pending_in new) at ∙ k.after ∙ ap (λ (zs : List WholeLevel). end_token_lists (pending_in old zs)) (sym is)

  pub closed_held : Moves old new (held_in xs) (held_in ys)
  closed_held h = omega (arith, k.moves h, held_cons l ls h, held_cons l' ls h, ap (λ (zs : List WholeLevel). held_in zs h) is, ap (λ (zs : List WholeLevel). held_in zs h) at)

  pub closed_kept : Keeps old new (held_in xs)
  closed_kept = record {
    tokens = λ h less. k.kept.tokens h (omega (arith, less, held_cons l ls h, ap (λ (zs : List WholeLevel). held_in zs h) is));
    places = λ h less. k.kept.places h (omega (arith, less, held_cons l ls h, ap (λ (zs : List WholeLevel). held_in zs h) is));
  }

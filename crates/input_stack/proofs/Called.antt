-- A macro call in front.
use Rattle.std.proofs.Common.{◌≡◌, ℕ, ◌+◌, ◌<◌, ◌≤◌, List, [], ◌∷◌, map, take, Option, None, Some, Bool, true, false, not, refl, sym, ap, ap₂, ◌∙◌, subst, arith}
use Rattle.std.specs.Prelude.{slice_get, is_some}
use Rattle.std.proofs.lemmas.Option.{none-some}
use Rattle.tex_defs.specs.declared.Token.{Token}
use Rattle.tex_defs.specs.declared.Full.{Full}
use Rattle.token_lists.specs.declared.ListRef.{ListRef}
use Rattle.token_lists.specs.Ids.{id_of}
use Rattle.token_lists.specs.Table.{Entry, tokens_at, holders_at}
use Rattle.token_lists.specs.Accounts.{holds, none, Moves, Keeps}
use Rattle.macro_args.specs.declared.args.Args.{Args}
use Rattle.macro_args.specs.Args.{IsFilled}
use Rattle.input_stack.specs.declared.reader.Reader.{Reader}
use Rattle.input_stack.specs.Whole.{WholeCall}
use Rattle.input_stack.specs.WholeLevel.{WholeLevel}
use Rattle.input_stack.specs.WholeLevel as level
use Rattle.input_stack.specs.Puts.{Item, Put, put_top, is_empty}
use Rattle.input_stack.specs.Calls.{argument_list, substituted, body_of, call_put}
use Rattle.input_stack.specs.Rest.{number, rest, IsAt}
use Rattle.input_stack.specs.Pending.{Pending, with_puts, end_token_lists, put, room, used_levels, used_parameters, parameter_room, either, call_refusal}
use Rattle.input_stack.specs.CallViews.{arguments_in, call_holds, put_of_call, IsCall}
use Rattle.input_stack.specs.Pushes.{pushed_holds}
use Rattle.input_stack.specs.View.{pending_in, in_front, held_in}
use Rattle.input_stack.specs.Stacks.{AreRead}
use Rattle.input_stack.proofs.CallItems.{body_left}
use Rattle.input_stack.proofs.CallKept.{filled_holds, call_same, call_stands}
use Rattle.input_stack.proofs.Kept.{Stay, leaves, pending_stays, read_stays}

put_none : (x : Put) (xs : List Item) (p : Pending) → xs ≡ [] → with_puts (put_top x xs p.puts) p ≡ p
put_none x xs p is = ap (λ (ys : List Item). with_puts (put_top x ys p.puts) p) is

put_some : (x : Put) (xs : List Item) (p : Pending) → is_empty xs ≡ false → in_front x (end_token_lists p) ≡ with_puts (put_top x xs p.puts) p
put_some x [] p is = cc
put_some x (y ∷ ys) p is = refl

none_refused : (size parameter_size count : ℕ) (xs : List Item) (p : Pending) → xs ≡ [] → call_refusal size parameter_size count xs p ≡ None
none_refused size parameter_size count xs p is = ap (λ (ys : List Item). call_refusal size parameter_size count ys p) is

some_refused : (size parameter_size count : ℕ) (xs : List Item) (p : Pending) → is_empty xs ≡ false → call_refusal size parameter_size count xs p ≡ either (parameter_room parameter_size (used_parameters p) count) (room size (used_levels p))
some_refused size parameter_size count [] p is = cc
some_refused size parameter_size count (x ∷ xs) p is = refl

nothing_left : (ts : List Token) (o : Option Token) (b : Bool) → o ≡ slice_get ts 0 → is_some o ≡ not b → b ≡ true → ts ≡ []
nothing_left [] o b at is t = refl
nothing_left (u ∷ ts) None b at is t = absurd (none-some u at)
nothing_left (u ∷ ts) (Some v) true at is t = cc
nothing_left (u ∷ ts) (Some v) false at is t = cc

pub kept_as : (old new : List (Option Entry)) (f g : ℕ → ℕ) → ((h : ℕ) → f h ≡ g h) → Keeps old new f → Keeps old new g
kept_as old new f g same keeps = record {
  tokens = λ h less. keeps.tokens h (omega (arith, less, same h));
  places = λ h less. keeps.places h (omega (arith, less, same h));
}

module _ (old : List (Option Entry)) (f : ℕ → ℕ) (body : ListRef) (args : Args) (r : Reader) (call : WholeCall) (is : call ≡ record { body = r; argument = None; args = take args.count args.lists }) (same : number r ≡ id_of body) (left : rest old r ≡ body_of (tokens_at old (id_of body))) (at : IsAt old r) (filled : IsFilled args) (covers : (h : ℕ) → pushed_holds body args h + f h ≤ holders_at old h) where
  -- the items that the call puts
  abbrev items : List Item
  items = substituted (arguments_in old args) (body_of (tokens_at old (id_of body)))

  abbrev put_is : Put
  put_is = call_put (id_of body) (tokens_at old (id_of body)) (arguments_in old args)

  pub call_is : put_of_call old call ≡ put_is
  call_is =
      ap (put_of_call old) is
      ∙ ap₂ (λ (n : ℕ) (ts : List Token). record { list = n; body = true; arguments = map argument_list (arguments_in old args); reading = None; items = substituted (arguments_in old args) ts }) same left

  pub holds_are : (h : ℕ) → call_holds call h ≡ pushed_holds body args h
  holds_are h = omega (arith, ap (λ (c : WholeCall). call_holds c h) is, ap (λ (n : ℕ). holds n h) same, filled_holds args h filled)

  pub stands_old : IsCall old call
  stands_old = subst (IsCall old) (sym is) (record { body = at; argument = tt; held = λ h some. omega (arith, some, covers h, filled_holds args h filled) })

  -- a call without a body
  module _ (new : List (Option Entry)) (ls : List WholeLevel) (o : Option Token) (b : Bool) (peeked : o ≡ slice_get (rest old r) 0) (tested : is_some o ≡ not b) (nothing : b ≡ true) (held : (h : ℕ) → f h ≡ held_in ls h) (moves : Moves old new (pushed_holds body args) none) (keeps : Keeps old new (pushed_holds body args)) where
    no_items : items ≡ []
    no_items = ap (substituted (arguments_in old args)) (sym left ∙ nothing_left (rest old r) o b peeked tested nothing)

    stays : Stay old new (held_in ls)
    stays = leaves old new (pushed_holds body args) (held_in ls) (λ h. omega (arith, covers h, held h)) moves keeps

    pub empty_read : AreRead old ls → AreRead new ls
    empty_read a = read_stays old new ls stays (λ h. omega (arith, covers h, held h, moves h)) a

    pub empty_ok : pending_in new ls ≡ put put_is (pending_in old ls)
    empty_ok = pending_stays old new ls stays ∙ sym (put_none put_is items (pending_in old ls) no_items)

    pub empty_refused : (size parameter_size count : ℕ) (p : Pending) → call_refusal size parameter_size count items p ≡ None
    empty_refused size parameter_size count p = none_refused size parameter_size count items p no_items

    pub empty_moves : Moves old new (λ h. pushed_holds body args h + f h) f
    empty_moves h = omega (arith, moves h)

    pub empty_keeps : Keeps old new (λ h. pushed_holds body args h + f h)
    empty_keeps = record {
      tokens = λ h less. keeps.tokens h (omega (arith, less));
      places = λ h less. keeps.places h (omega (arith, less));
    }

  -- a call with one
  module _ (o : Option Token) (b : Bool) (peeked : o ≡ slice_get (rest old r) 0) (tested : is_some o ≡ not b) (something : b ≡ false) where
    some_items : is_empty items ≡ false
    some_items = ap (λ (ts : List Token). is_empty (substituted (arguments_in old args) ts)) (sym left) ∙ sym (body_left (arguments_in old args) (rest old r) o b peeked tested) ∙ something

    pub full_refused : (size parameter_size n m : ℕ) (size' parameter_size' : ℕ) (p : Pending) (full : Option Full) → size' ≡ size → parameter_size' ≡ parameter_size → n ≡ used_parameters p → m ≡ used_levels p → full ≡ either (parameter_room parameter_size' n args.count) (room size' m) → call_refusal size parameter_size args.count items p ≡ full
    full_refused size parameter_size n m size' parameter_size' p full a b' c d e =
        some_refused size parameter_size args.count items p some_items
        ∙ ap₂ either (ap₂ (λ (z u : ℕ). parameter_room z u args.count) (sym b') (sym c)) (ap₂ room (sym a) (sym d))
        ∙ sym e

    module _ (mid : List (Option Entry)) (g : ℕ → ℕ) (moves : Moves old mid f g) (keeps : Keeps old mid f) where
      tokens : (h : ℕ) → 0 < call_holds call h → tokens_at mid h ≡ tokens_at old h
      tokens h some = keeps.tokens h (omega (arith, some, covers h, holds_are h))

      pub call_level : IsCall mid call
      call_level = call_stands old mid (call_holds call) tokens (λ h some. keeps.places h (omega (arith, some, covers h, holds_are h))) (λ h some. omega (arith, some, covers h, holds_are h, moves h)) call (λ h. omega arith) stands_old

      pub call_pending : (xs ls : List WholeLevel) (p : Pending) → xs ≡ level.Call call ∷ ls → pending_in mid ls ≡ end_token_lists p → pending_in mid xs ≡ put put_is p
      call_pending xs ls p at_top after =
          ap (pending_in mid) at_top
          ∙ ap₂ in_front (call_same old mid call tokens ∙ call_is) after
          ∙ put_some put_is items p some_items

-- The moves by which a call is fed with a token, and what they need.
use Rattle.std.proofs.Common.{◌≡◌, ℕ, ◌+◌, ◌<◌, ◌≤◌, List, [], ◌∷◌, ◌++◌, length, drop, map, refl, sym, subst, true, append_assoc, length-append, arith}
use Rattle.std.proofs.lemmas.Bool.Decides.{nat_tests}
use Rattle.std.proofs.lemmas.List.{append-nil}
use Rattle.std.proofs.lemmas.List.Sums.{sum_by-cons}
use Rattle.std.proofs.Math.Seq.{drop-append_seam, drop-length}
use Rattle.std.specs.Prelude.{Option, Some, None, nat_le, unwrap_or}
use Rattle.tex_defs.specs.declared.Seen.{Seen}
use Rattle.tex_defs.specs.declared.Sizes.{Sizes}
use Rattle.tex_defs.specs.declared.Token.{Token}
use Rattle.tex_defs.specs.Places.{World}
use Rattle.plain_tokens.specs.Arguments.{Answer, arguments_in, work_in}
use Rattle.plain_tokens.specs.Pending.{all_puts}
use Rattle.plain_tokens.specs.Puts.{list_of_tokens}
use Rattle.rows.specs.Readings.{Tok}
use Rattle.plain_readings.specs.Readings.{Reading}
use Rattle.plain_machine.specs.States.{State, Move, Grows, Feeds, Completed, Opened}
use Rattle.plain_tokens.specs.Tables.{list_words, lists_words, put_words, made_words, memory, refused}
use Rattle.equivalents.specs.Holding.{lists_held, shared_words}
use Rattle.plain_machine.specs.Demands.{words}
use Rattle.plain_machine.specs.Plan.{argument_fed, grown_to}
use Rattle.plain_machine.specs.Does.{Did}
use Rattle.plain_machine.proofs.Doing.{did_none, did_join, did_one}
use Rattle.macro_call.specs.Growths.{target_by}
use Rattle.input_state.specs.Callings.{last_first}
use Rattle.engine_state.proofs.CallsKnown.{lists_of}
use Rattle.engine_state.proofs.CallFeedingCases.{FedCase, Waits, Enters, Grown, Last, Next}
use Rattle.engine_state.proofs.Joining.{quiet_here}

-- an argument more comes first
pub last_more : (args : List (List Token)) (a : List Token) (others : List (List Token)) → last_first (args ++ a ∷ []) others ≡ list_of_tokens a ++ last_first args others
last_more [] a others = refl
last_more (b ∷ args) a others = last_more args a (list_of_tokens b ++ others)

-- a word more
pub memory_fits : (sizes : Sizes) (n : ℕ) → n + 1 ≤ sizes.main_memory_size → refused sizes (memory 1 n ∷ []) ≡ None
memory_fits sizes n room = let within : nat_le (n + 1) sizes.main_memory_size ≡ true = grind (arith, nat_tests, room) in rw within refl

-- THE READING THAT IS FED
abbrev pub fed_reading : Reading → Seen → Reading
fed_reading r x = record { kind = r.kind; fed = r.fed ++ Tok x ∷ [] }

-- a state with these readings, the last token, and the lists that they hold
abbrev pub state_at : State → List Reading → Seen → List (List Token) → State
state_at s work last lists = record s { work = work; last = last; gathered = lists }

-- the words of its other lists
abbrev pub other_words : State → ℕ
other_words s = shared_words 0 (lists_held s.groups) (all_puts s.pending) s.all_lists + (put_words (all_puts s.pending) + made_words s.making)

pub words_at : (s : State) (work : List Reading) (last : Seen) (lists : List (List Token)) → words (state_at s work last lists) ≡ other_words s + lists_words lists
words_at s work last lists = omega arith

-- THE MOVES
module _ (sizes : Sizes) (s : State) (w : World) where
  pub grows_did : (ts was : List Token) (rest : List (List Token)) (work : List Reading) (last : Seen) → (0 < length ts → other_words s + lists_words (was ∷ rest) + length ts ≤ sizes.main_memory_size) →
      Did sizes (state_at s work last (was ∷ rest)) (state_at s work last ((was ++ ts) ∷ rest)) w w (map Grows ts)
  grows_did [] was rest work last room = subst (λ (l : List Token). Did sizes (state_at s work last (was ∷ rest)) (state_at s work last (l ∷ rest)) w w []) (sym (append-nil was)) (did_none sizes (state_at s work last (was ∷ rest)) w)
  grows_did (t ∷ ts) was rest work last room =
      let here : other_words s + lists_words (was ∷ rest) + length {A = Token} (t ∷ ts) ≤ sizes.main_memory_size = room (omega arith) in
      let one : words (state_at s work last (was ∷ rest)) + 1 ≤ sizes.main_memory_size = omega (arith, here, words_at s work last (was ∷ rest)) in
      let more : lists_words ((was ++ t ∷ []) ∷ rest) ≡ lists_words (was ∷ rest) + 1 = omega (arith, sum_by-cons list_words (was ++ t ∷ []) rest, sum_by-cons list_words was rest, length-append was (t ∷ [])) in
      subst (λ (l : List Token). Did sizes (state_at s work last (was ∷ rest)) (state_at s work last (l ∷ rest)) w w (map Grows (t ∷ ts))) (append_assoc was (t ∷ []) ts)
      (did_join sizes _ (state_at s work last ((was ++ t ∷ []) ∷ rest)) _ w w w (Grows t ∷ []) (map Grows ts)
      (did_one sizes (Grows t) (state_at s work last (was ∷ rest)) _ w w (memory_fits sizes (words (state_at s work last (was ∷ rest))) one) refl (quiet_here (Grows t) w tt))
      (grows_did ts (was ++ t ∷ []) rest work last (λ some. omega (arith, here, more))))

  module _ (r : Reading) (rs : List Reading) (last x : Seen) where
    -- in front of the token, and behind it
    abbrev before : List (List Token) → State
    before lists = state_at s (r ∷ rs) last lists

    abbrev behind : List (List Token) → State
    behind lists = state_at s (fed_reading r x ∷ rs) x lists

    pub feeds_did : (lists : List (List Token)) → Did sizes (before lists) (behind lists) w w (Feeds (Tok x) ∷ [])
    feeds_did lists = did_one sizes (Feeds (Tok x)) _ _ w w refl refl (quiet_here (Feeds (Tok x)) w tt)

    completed_did : (arg was : List Token) (rest : List (List Token)) → Did sizes (behind (was ∷ rest)) (behind (list_of_tokens arg ++ rest)) w w (Completed arg ∷ [])
    completed_did arg was rest = did_one sizes (Completed arg) _ _ w w refl refl (quiet_here (Completed arg) w tt)

    opened_did : (lists : List (List Token)) → other_words s + lists_words ([] ∷ lists) ≤ sizes.main_memory_size → Did sizes (behind lists) (behind ([] ∷ lists)) w w (Opened ∷ [])
    opened_did lists room =
        let one : words (behind lists) + 1 ≤ sizes.main_memory_size = omega (arith, room, words_at s (fed_reading r x ∷ rs) x lists, sum_by-cons list_words [] lists) in
        did_one sizes Opened (behind lists) _ w w (memory_fits sizes (words (behind lists)) one) refl (quiet_here Opened w tt)

    -- the list in work becomes an argument
    pub whole_did : (arg was : List Token) (args builds : List (List Token)) →
        (0 < length (drop (length was) arg) → other_words s + lists_words (was ∷ (args ++ builds)) + length (drop (length was) arg) ≤ sizes.main_memory_size) →
        Did sizes (before (was ∷ (args ++ builds))) (behind ((list_of_tokens arg ++ args) ++ builds)) w w (grown_to was arg ++ (Feeds (Tok x) ∷ Completed arg ∷ []))
    whole_did arg was args builds room =
        subst (λ (l : List (List Token)). Did sizes (before (was ∷ (args ++ builds))) (behind l) w w (grown_to was arg ++ (Feeds (Tok x) ∷ Completed arg ∷ [])))
        (sym (append_assoc (list_of_tokens arg) args builds))
        (did_join sizes _ _ _ w w w (grown_to was arg) (Feeds (Tok x) ∷ Completed arg ∷ []) (grows_did (drop (length was) arg) was (args ++ builds) (r ∷ rs) last room)
        (did_join sizes _ _ _ w w w (Feeds (Tok x) ∷ []) (Completed arg ∷ []) (feeds_did ((was ++ drop (length was) arg) ∷ (args ++ builds)))
        (completed_did arg (was ++ drop (length was) arg) (args ++ builds))))

    -- WHAT A TOKEN COMES TO

    -- the tokens that go into the list in work have room
    abbrev pub Room : (args : List (List Token)) → (work : Option (List Token)) → (complete : List (List Token)) → (next : Option (List Token)) → (builds : List (List Token)) → Type 0
    Room args work complete next builds = other_words s + lists_words (lists_of args work ++ builds) + length (drop (length (unwrap_or work [])) (target_by complete next)) ≤ sizes.main_memory_size

    -- where these lists are held, the moves lead to those
    abbrev pub Leads : (args : List (List Token)) → (work : Option (List Token)) → (now : List (List Token)) → (next : Option (List Token)) → (builds : List (List Token)) → Type 0
    Leads args work now next builds =
        Room args work (drop (length args) now) next builds → other_words s + lists_words (lists_of now next ++ builds) ≤ sizes.main_memory_size →
        Did sizes (before (lists_of args work ++ builds)) (behind (lists_of now next ++ builds)) w w (argument_fed x work (drop (length args) now) next)

    waits_lead : (builds : List (List Token)) → Leads [] None [] None builds
    waits_lead builds room after = feeds_did builds

    enters_lead : (builds : List (List Token)) → Leads [] None [] (Some []) builds
    enters_lead builds room after = did_join sizes _ _ _ w w w (Feeds (Tok x) ∷ []) (Opened ∷ []) (feeds_did builds) (opened_did builds after)

    grown_lead : (args : List (List Token)) (was more : List Token) (builds : List (List Token)) → Leads args (Some was) args (Some (was ++ more)) builds
    grown_lead args was more builds = rw (drop-length args, drop-append_seam was more) (λ room after.
        did_join sizes _ _ _ w w w (map Grows more) (Feeds (Tok x) ∷ []) (grows_did more was (last_first args [] ++ builds) (r ∷ rs) last (λ some. room)) (feeds_did ((was ++ more) ∷ (last_first args [] ++ builds))))

    last_lead : (args : List (List Token)) (was arg : List Token) (builds : List (List Token)) → Leads args (Some was) (args ++ arg ∷ []) None builds
    last_lead args was arg builds = rw (drop-append_seam args (arg ∷ []), last_more args arg []) (λ room after. whole_did arg was (last_first args []) builds (λ some. room))

    next_lead : (args : List (List Token)) (was arg : List Token) (builds : List (List Token)) → Leads args (Some was) (args ++ arg ∷ []) (Some []) builds
    next_lead args was arg builds = rw (drop-append_seam args (arg ∷ []), last_more args arg []) (λ room after.
        subst (λ (ms : List Move). Did sizes (before (was ∷ (last_first args [] ++ builds))) (behind ([] ∷ ((list_of_tokens arg ++ last_first args []) ++ builds))) w w ms) (append_assoc (grown_to was arg) (Feeds (Tok x) ∷ Completed arg ∷ []) (Opened ∷ []))
        (did_join sizes _ _ _ w w w (grown_to was arg ++ (Feeds (Tok x) ∷ Completed arg ∷ [])) (Opened ∷ []) (whole_did arg was (last_first args []) builds (λ some. room))
        (opened_did ((list_of_tokens arg ++ last_first args []) ++ builds) after)))

    pub turn_leads : (args : List (List Token)) (work : Option (List Token)) (a : Answer) (builds : List (List Token)) → FedCase args work a → Leads args work (arguments_in a) (work_in a) builds
    turn_leads args work a builds (Waits none bare next now) = rw (none, bare, next, now) (waits_lead builds)
    turn_leads args work a builds (Enters none bare next now) = rw (none, bare, next, now) (enters_lead builds)
    turn_leads args work a builds (Grown was more is next now) = rw (is, next, now) (grown_lead args was more builds)
    turn_leads args work a builds (Last was arg is called) = rw (is, called) (last_lead args was arg builds)
    turn_leads args work a builds (Next was arg is goes_on) = rw (is, goes_on) (next_lead args was arg builds)

-- Each match of a command's words has a value that passes, where `clap` has no kind of refusal for the words.
use Rattle.std.proofs.Common.{◌≡◌, ◌⊎◌, ◌&&◌, ◌||◌, ◌++◌, ℕ, zero, suc, Bool, true, false, List, [], ◌∷◌, Option, Some, None, length, refl, ap, sym, ◌∙◌, inl, inr, fold, find, drop, if◌then◌else◌, bytes_eq, arith, subst}
use Rattle.std.specs.Prelude.{⊤, slice_get, encode_utf8, is_some, IfSome, option_map, option_and_then}
use Rattle.std.specs.Option.{option_map_or}
use Rattle.std.specs.Str.{chars}
use Rattle.std.proofs.lemmas.List.Folds.{list_all-append}
use Rattle.std.proofs.lemmas.Slice.Eq.{bytes_eq-Decides}
use Rattle.std.proofs.lemmas.Bool.{ne_eqb}
use Rattle.clap.specs.Words.{Kinds, Row, Rule, Shape, Text}
use Rattle.clap.specs.Kinds.{or_else, range_kinds, request_kinds}
use Rattle.clap.specs.Lexer.{long_of, short_of}
use Rattle.clap.specs.Facts.{explicit_source, parser_of_value, unwrap_or_range}
use Rattle.clap.specs.Values.{read_as, refused_kind}
use Rattle.command_words.specs.Taken.{HasValue}
use Rattle.clap.proofs.WalkLemmas.{both}
use Rattle.clap.specs.Walk as walk
use Rattle.clap.specs.Walk.{Held, Names, Outcome, Step, Waiting, Walk, action_of, after_flag, after_step, arg_by_id, arg_by_index, arg_by_long, arg_by_short, at_row, nothing_held, rows_after, attached_value, bundle_met, bundle_step, default_rows, flag_met, has_row, is_empty, is_pending, long_met, long_or_other, long_word, more_values, most_values, option_met, option_word, plain_word, positional_held, pushed, reacted, reading_by, settled, settled_rows, short_met, short_or_plain, subcommand_met, subcommand_or_other, takes_several, takes_values, to_positional, used, used_as, values_or_missing, walked, walked_from, with_default, with_values, without, word_met}
use Rattle.clap.specs.Takes.{is_given, value_passes, values_pass}
use Rattle.clap.specs.Faults.{action_fault, default_fault, defaults_fault, flag_word_fault, flags_fault, bundle_fault, bundle_step_fault, check_fault, level_fault, given_default_fault, long_fault, option_fault, other_fault, positional_fault, react_fault, set_fault, settle_fault, short_fault, step_fault, stray_fault, turn_fault, use_fault, values_fault, walk_fault, word_fault}
use Rattle.clap.specs.declared.builder.action.ArgAction.{ArgAction}
use Rattle.clap.specs.declared.builder.action.ArgAction.TheVariants.{Set, SetTrue}
use Rattle.clap.specs.declared.builder.value_parser.Reading.{Reading}
use Rattle.clap.specs.declared.builder.value_parser.Reading.TheVariants.{AsWritten}
use Rattle.clap.specs.declared.error.kind.ErrorKind.{ErrorKind}
use Rattle.clap.specs.declared.parser.matches.ValueSource.{ValueSource}
use Rattle.clap.specs.declared.parser.matches.ValueSource.TheVariants.{CommandLine, DefaultValue}

abbrev pub Each : {X : Type 0} → (X → Type 0) → List X → Type 0
Each P [] = ⊤
Each P (x ∷ xs) = P x × Each P xs

abbrev pub has_some : {X : Type 0} → List X → Bool
has_some [] = false
has_some (x ∷ xs) = true

-- the argument stands in the command under its id, is set by its uses, and each use gives it a value
pub record IsSet (c : List Rule) (a : Rule) : Type 0 where
  pub here : arg_by_id c a.id ≡ Some a
  pub action : (action_of a ≡ Set) ⊎ (action_of a ≡ SetTrue)
  pub valued : ((unwrap_or_range a.range).start_inclusive ≡ 1) ⊎ (has_some a.missing ≡ true)
  pub reading : reading_by a ≡ AsWritten

-- the row is that of an argument, and its values pass
pub record IsPassed (c : List Rule) (r : Row) : Type 0 where
  pub rule : Rule
  pub of : arg_by_id c r.id ≡ Some rule
  pub reading : r.reading ≡ AsWritten
  pub some : has_some r.values ≡ true
  pub passes : values_pass rule r.values ≡ true

abbrev pub Passed : List Rule → List Row → Type 0
Passed c rows = Each (IsPassed c) rows

-- ---- lists and tests

pub or_empty : (a b : Kinds) → or_else a b ≡ [] → (a ≡ []) × (b ≡ [])
or_empty [] b e = (refl, e)
or_empty (k ∷ ks) b e = cc

pub found : {X : Type 0} (P : X → Type 0) (p : X → Bool) (xs : List X) → Each P xs → IfSome (find p xs) P
found P p [] h = tt
found {X} P p (x ∷ xs) h = go (p x) (find p xs) (found P p xs h.1)
  where
    go : (b : Bool) (o : Option X) → IfSome o P → IfSome (if b then Some x else o) P
    go true o k = h.0
    go false o k = k

same : (x y : Text) → bytes_eq x y ≡ true → x ≡ y
same x y e = (bytes_eq-Decides x y).0 e

longer : (xs ys : List Text) → has_some xs ≡ true → has_some (xs ++ ys) ≡ true
longer [] ys e = cc
longer (x ∷ xs) ys e = refl

both_true : (a b : Bool) → a ≡ true → b ≡ true → (a && b) ≡ true
both_true true b e f = f
both_true false b e f = cc

some_is : {X : Type 0} (x y : X) → Some x ≡ Some y → x ≡ y
some_is x y e = cc

-- ---- one use of an argument

at_rows : (c : List Rule) (id : Text) (change : Row → List Row) (missing : List Row) → Passed c missing
    → ((r : Row) → bytes_eq r.id id ≡ true → IsPassed c r → (rs : List Row) → Passed c rs → Passed c (change r ++ rs))
    → (rows : List Row) → Passed c rows → Passed c (at_row id change missing rows)
at_rows c id change missing m k [] h = m
at_rows c id change missing m k (r ∷ rs) h = go (bytes_eq r.id id) refl (at_row id change missing rs) (at_rows c id change missing m k rs h.1)
  where
    go : (b : Bool) → bytes_eq r.id id ≡ b → (rest : List Row) → Passed c rest → Passed c (if b then change r ++ rs else r ∷ rest)
    go true e rest p = k r e h.0 rs h.1
    go false e rest p = (h.0, p)

without_passed : (c : List Rule) (id : Text) (rows : List Row) → Passed c rows → Passed c (without id rows)
without_passed c id rows h = at_rows c id (λ _. []) [] tt (λ r e p rs q. q) rows h

with_passed : (c : List Rule) (a : Rule) → IsSet c a → (s : ValueSource) (values : List Text) → has_some values ≡ true
    → values_pass a values ≡ true → (rows : List Row) → Passed c rows → Passed c (with_values a.id (reading_by a) s values rows)
with_passed c a set s values some passes rows h = at_rows c a.id (more_values s values) _
    (record { rule = a; of = set.here; reading = set.reading; some = some; passes = passes }, tt)
    (λ r e p rs q.
    let own : arg_by_id c r.id ≡ Some a = ap (arg_by_id c) (same _ _ e) ∙ set.here in
    let is_a : p.rule ≡ a = some_is _ _ (sym p.of ∙ own) in (
      record {
        rule = a;
        of = own;
        reading = p.reading;
        some = longer r.values values p.some;
        passes = list_all-append (value_passes a) r.values values ∙ both_true _ _ (subst (λ (x : Rule). values_pass x r.values ≡ true) is_a p.passes) passes;
      },
      q,
    )) rows h

value_accepted : (i : Bool) (b : Bool) (k : Kinds) → (if b then [] else k) ≡ [] → has_some k ≡ true → b ≡ true
value_accepted i true k e h = refl
value_accepted i false [] e h = cc
value_accepted i false (x ∷ k) e h = cc

values_accepted : (a : Rule) (values : List Text) → values_fault a values ≡ [] → values_pass a values ≡ true
values_accepted a [] e = refl
values_accepted a (v ∷ vs) e =
    let parts = or_empty _ _ e in
    both_true _ _ (value_accepted true (value_passes a v) (refused_kind (parser_of_value a.parser) ∷ []) parts.0 refl) (values_accepted a vs parts.1)

-- what a use writes is there
given_values : (a : Rule) (values : List Text) (most : ℕ) → ((unwrap_or_range a.range).start_inclusive ≡ 1) ⊎ (has_some a.missing ≡ true)
    → range_kinds (unwrap_or_range a.range).start_inclusive most (length values) ≡ [] → has_some (values_or_missing a values) ≡ true
given_values a (v ∷ vs) most s e = refl
given_values a [] most (inr m) e = m
given_values a [] most (inl one) e = absurd (no_value (subst (λ (n : ℕ). range_kinds n most 0 ≡ []) one e))
  where
    no_value : range_kinds 1 most 0 ≡ [] → ⊥
    no_value h = cc

abbrev IsSetter : ArgAction → Type 0
IsSetter x = (x ≡ Set) ⊎ (x ≡ SetTrue)

used_set : (x : ArgAction) → IsSetter x → (id : Text) (how : Reading) (values : List Text) (rows : List Row)
    → used_as x id how values rows ≡ with_values id how CommandLine values (without id rows)
used_set x (inl e) id how values rows = rw e refl
used_set x (inr e) id how values rows = rw e refl

fault_set : (x : ArgAction) → IsSetter x → (again : Bool) (a : Rule) (values : List Text) (rows : List Row)
    → action_fault x again a values rows ≡ set_fault again a values rows
fault_set x (inl e) again a values rows = rw e refl
fault_set x (inr e) again a values rows = rw e refl

used_passed : (c : List Rule) (again : Bool) (a : Rule) → IsSet c a → (values : List Text) (rows : List Row)
    → use_fault again a values rows ≡ [] → Passed c rows → Passed c (used a values rows)
used_passed c again a set values rows e h =
    let parts = or_empty _ _ e in
    let some = given_values a values _ set.valued parts.0 in
    let as_set = sym (fault_set (action_of a) set.action again a (values_or_missing a values) rows) ∙ parts.1 in
    let passes = values_accepted a (values_or_missing a values) (or_empty _ _ as_set).1 in
    subst (Passed c) (sym (used_set (action_of a) set.action a.id (reading_by a) (values_or_missing a values) rows))
    (with_passed c a set CommandLine (values_or_missing a values) some passes (without a.id rows) (without_passed c a.id rows h))

-- ---- the walk

pub settled_passed : (c : List Rule) → Each (IsSet c) c → (again : Bool) (h : Held) → settle_fault c again h ≡ [] → Passed c h.rows → Passed c (settled c h).rows
settled_passed c sets again h e p = of_pending h.pending e
  where
    of_rule : (q : Text × List Text) (o : Option Rule) → IfSome o (IsSet c)
        → option_map_or (λ a. use_fault again a q.1 h.rows) o [] ≡ [] → Passed c (walk.used_by_id o q.1 h.rows)
    of_rule q None s f = p
    of_rule q (Some a) s f = used_passed c again a s q.1 h.rows f p

    of_pending : (o : Option (Text × List Text))
        → option_map_or (λ q. option_map_or (λ a. use_fault again a q.1 h.rows) (arg_by_id c q.0) []) o [] ≡ [] → Passed c (settled_rows c o h.rows)
    of_pending None f = p
    of_pending (Some q) f = of_rule q (arg_by_id c q.0) (found (IsSet c) _ c sets) f

reacted_passed : (c : List Rule) → Each (IsSet c) c → (again : Bool) (a : Rule) → IsSet c a → (values : List Text) (h : Held)
    → react_fault c again a values h ≡ [] → Passed c h.rows → Passed c (reacted c a values h).rows
reacted_passed c sets again a set values h e p =
    let parts = or_empty _ _ e in
    used_passed c again a set values (settled c h).rows parts.1 (settled_passed c sets again h parts.0 p)

option_passed : (c : List Rule) → Each (IsSet c) c → (again : Bool) (a : Rule) → IsSet c a → (v : Option Text) (h : Held)
    → option_fault c again a v h ≡ [] → Passed c h.rows → Passed c (option_met c a v h).0.rows
option_passed c sets again a set (Some v) h e p = reacted_passed c sets again a set (v ∷ []) h e p
option_passed c sets again a set None h e p = settled_passed c sets again h e p

flag_passed : (c : List Rule) → Each (IsSet c) c → (again : Bool) (a : Rule) → IsSet c a → (v : Option Text) (h : Held)
    → (if is_some v then ErrorKind.TooManyValues ∷ [] else react_fault c again a [] h) ≡ [] → Passed c h.rows → Passed c (flag_met c a v h).0.rows
flag_passed c sets again a set (Some v) h e p = p
flag_passed c sets again a set None h e p = reacted_passed c sets again a set [] h e p

long_passed : (c : List Rule) → Each (IsSet c) c → (again : Bool) (o : Option Rule) → IfSome o (IsSet c) → (v : Option Text) (h : Held)
    → long_fault c again o v h ≡ [] → Passed c h.rows → Passed c (long_met c o v h).0.rows
long_passed c sets again None s v h e p = p
long_passed c sets again (Some a) s v h e p = go (takes_values a) e
  where
    go : (b : Bool) → (if b then option_fault c again a v h else (if is_some v then ErrorKind.TooManyValues ∷ [] else react_fault c again a [] h)) ≡ []
        → Passed c (if b then option_met c a v h else flag_met c a v h).0.rows
    go true f = option_passed c sets again a s v h f p
    go false f = flag_passed c sets again a s v h f p

short_passed : (c : List Rule) → Each (IsSet c) c → (again : Bool) (o : Option Rule) → IfSome o (IsSet c) → (rest : Text) (h : Held)
    → (next_fault : Held → Kinds) (next : Held → Held × Outcome) → ((g : Held) → next_fault g ≡ [] → Passed c g.rows → Passed c (next g).0.rows)
    → short_fault c again o rest h next_fault ≡ [] → Passed c h.rows → Passed c (short_met c o rest h next).0.rows
short_passed c sets again None s rest h next_fault next k e p = p
short_passed c sets again (Some a) s rest h next_fault next k e p = go (takes_values a) e
  where
    go : (b : Bool) → (if b then option_fault c again a (attached_value rest) h else or_else (react_fault c again a [] h) (next_fault (reacted c a [] h))) ≡ []
        → Passed c (if b then option_met c a (attached_value rest) h else next (reacted c a [] h)).0.rows
    go true f = option_passed c sets again a s (attached_value rest) h f p
    go false f =
        let parts = or_empty _ _ f in
        k (reacted c a [] h) parts.1 (reacted_passed c sets again a s [] h parts.0 p)

bundle_passed : (c : List Rule) → Each (IsSet c) c → (again : Bool) (k : ℕ) (flags : Text) (skip : ℕ) (so_far : Outcome) (h : Held)
    → flags_fault c again k flags skip h ≡ [] → Passed c h.rows → Passed c (bundle_met c k flags skip so_far h).0.rows
unfolding flags_fault bundle_met
bundle_passed c sets again zero flags skip so_far h e p = p
bundle_passed c sets again (suc k) flags skip so_far h e p = step (slice_get (chars flags) 0) skip (bundle_passed c sets again k) e
  where
    step : (x : Option ℕ) (skip : ℕ) → ((flags : Text) (skip : ℕ) (so_far : Outcome) (g : Held)
        → flags_fault c again k flags skip g ≡ [] → Passed c g.rows → Passed c (bundle_met c k flags skip so_far g).0.rows)
        → bundle_step_fault c again x flags skip h (flags_fault c again k) ≡ []
        → Passed c (bundle_step c x flags skip so_far h (bundle_met c k)).0.rows
    step None skip ih f = p
    step (Some x) zero ih f =
        let rest = drop (length (encode_utf8 x)) flags in
        short_passed c sets again (arg_by_short c x) (found (IsSet c) _ c sets) rest h (flags_fault c again k rest 0) (bundle_met c k rest 0 walk.done) (λ g. ih rest 0 walk.done g) f p
    step (Some x) (suc skip) ih f = ih (drop (length (encode_utf8 x)) flags) skip so_far h f p

-- a word that is no flag changes no row before it goes to a positional
plain_passed : (c : List Rule) (waiting : Waiting) (word : Text) (h : Held) → Passed c h.rows → Passed c (plain_word c waiting word h).0.rows
plain_passed c walk.idle word h p = p
plain_passed c walk.positional word h p = p
plain_passed c (walk.option id) word h p = go (arg_by_id c id)
  where
    go : (o : Option Rule) → Passed c (option_word o id word h).0.rows
    go None = p
    go (Some a) = p

flag_word_passed : (c : List Rule) (waiting : Waiting) (word : Text) (h : Held) (o : Outcome) → Passed c h.rows → Passed c (after_flag c waiting word h o).0.rows
flag_word_passed c waiting word h walk.done p = p
flag_word_passed c waiting word h (walk.waits id) p = p
flag_word_passed c waiting word h walk.plain p = plain_passed c waiting word h p
flag_word_passed c waiting word h walk.refused p = plain_passed c waiting word h p

-- ---- a word

long_word_passed : (c : List Rule) → Each (IsSet c) c → (again : Bool) (waiting : Waiting) (word : Text) (h : Held) (o : Option (Text × Option Text))
    → flag_word_fault c again o word h ≡ [] → Passed c h.rows → Passed c (long_or_other c waiting word o h).0.rows
long_word_passed c sets again waiting word h (Some q) e p =
    flag_word_passed c waiting word (long_met c (arg_by_long c q.0) q.1 h).0 (long_met c (arg_by_long c q.0) q.1 h).1
    (long_passed c sets again (arg_by_long c q.0) (found (IsSet c) _ c sets) q.1 h e p)
long_word_passed c sets again waiting word h None e p = go (short_of word) e
  where
    go : (o : Option Text) → option_map_or (λ flags. bundle_fault c again flags h) o [] ≡ [] → Passed c (short_or_plain c waiting word o h).0.rows
    go None f = plain_passed c waiting word h p
    go (Some flags) f = flag_word_passed c waiting word (walk.bundle c flags h).0 (walk.bundle c flags h).1
        (bundle_passed c sets again (length flags) flags h.skip walk.plain (record h { skip = 0 }) f p)

other_passed : (s : Shape) → Each (IsSet s.rules) s.rules → (o : Option Text) (waiting : Waiting) (position : ℕ) (word : Text) (h : Held)
    → other_fault s o word h ≡ [] → Passed s.rules h.rows → Passed s.rules (subcommand_or_other s.rules o waiting position word h).0.rows
other_passed s sets (Some name) waiting position word h e p = p
other_passed s sets None waiting position word h e p = go (bytes_eq word (45 ∷ 45 ∷ [])) e
  where
    go : (b : Bool) → (if b then [] else flag_word_fault s.rules s.args_override_self (long_of word) word h) ≡ []
        → Passed s.rules (if b then (h, walk.trailing position) else long_or_other s.rules waiting word (long_of word) h).0.rows
    go true f = p
    go false f = long_word_passed s.rules sets s.args_override_self waiting word h (long_of word) f p

word_passed : (s : Shape) → Each (IsSet s.rules) s.rules → (names : Names) (is_trailing : Bool) (waiting : Waiting) (position : ℕ) (word : Text) (h : Held)
    → word_fault s names is_trailing waiting word h ≡ [] → Passed s.rules h.rows → Passed s.rules (word_met s.rules names is_trailing waiting position word h).0.rows
word_passed s sets names true waiting position word h e p = p
word_passed s sets names false waiting position word h e p = other_passed s sets (subcommand_met names waiting word) waiting position word h e p

positional_passed : (c : List Rule) → Each (IsSet c) c → (again : Bool) (a : Rule) (word : Text) (h : Held)
    → positional_fault c again a h ≡ [] → Passed c h.rows → Passed c (positional_held c a word h).rows
positional_passed c sets again a word h e p = go (is_pending a h.pending && takes_several a) e
  where
    go : (b : Bool) → (if b then [] else settle_fault c again h) ≡ [] → Passed c (if b then h else settled c h).rows
    go true f = p
    go false f = settled_passed c sets again h f p

step_passed : (s : Shape) → Each (IsSet s.rules) s.rules → (word : Text) (w : Walk) (h : Held) (t : Step)
    → step_fault s w.position h t ≡ [] → Passed s.rules h.rows → Passed s.rules (after_step s.rules word w h t).held.rows
step_passed s sets word w h (walk.next waiting) e p = p
step_passed s sets word w h (walk.trailing position) e p = p
step_passed s sets word w h (walk.subcommand name) e p = p
step_passed s sets word w h walk.value e p = go (arg_by_index s.rules w.position) e
  where
    go : (o : Option Rule) → option_map_or (λ a. positional_fault s.rules s.args_override_self a h) o (stray_fault s) ≡ []
        → Passed s.rules (to_positional s.rules o word w h).held.rows
    go None f = p
    go (Some a) f = positional_passed s.rules sets s.args_override_self a word h f p

turn_passed : (s : Shape) → Each (IsSet s.rules) s.rules → (names : Names) (w : Walk) (word : Text)
    → turn_fault s names w word ≡ [] → Passed s.rules w.held.rows → Passed s.rules (walked s.rules names w word).held.rows
unfolding walked
turn_passed s sets names w word e p = go w.stopped e
  where
    met : Held × Step
    met = word_met s.rules names w.is_trailing w.waiting w.position word w.held

    go : (o : Option (Text × List Text))
        → (if is_some o then [] else or_else (word_fault s names w.is_trailing w.waiting word w.held) (step_fault s w.position met.0 met.1)) ≡ []
        → Passed s.rules (walked_from s.rules names o w word).held.rows
    go (Some q) f = p
    go None f =
        let parts = or_empty _ _ f in
        step_passed s sets word w met.0 met.1 parts.1 (word_passed s sets names w.is_trailing w.waiting w.position word w.held parts.0 p)

walk_passed : (s : Shape) → Each (IsSet s.rules) s.rules → (names : Names) (w : Walk) (words : List Text)
    → walk_fault s names w words ≡ [] → Passed s.rules w.held.rows → Passed s.rules (fold (walked s.rules names) w words).held.rows
unfolding walk_fault
walk_passed s sets names w [] e p = p
walk_passed s sets names w (word ∷ rest) e p =
    let parts = or_empty _ _ e in
    walk_passed s sets names (walked s.rules names w word) rest parts.1 (turn_passed s sets names w word parts.0 p)

-- ---- the defaults

not_empty : (v : Text) (vs : List Text) → is_empty (v ∷ vs) ≡ false
not_empty v vs = ne_eqb _ _ (λ e. omega arith)

default_passed : (c : List Rule) (a : Rule) → IsSet c a → (rows : List Row) → default_fault rows a ≡ [] → Passed c rows → Passed c (with_default rows a)
default_passed c a set rows e p = go (has_row a.id rows) a.defaults e
  where
    go : (b : Bool) (values : List Text) → (if b || is_empty values then [] else given_default_fault a values) ≡ []
        → Passed c (if b then rows else default_rows a.id (reading_by a) values rows)
    go true values f = p
    go false [] f = p
    go false (v ∷ vs) f =
        let faults : given_default_fault a (v ∷ vs) ≡ [] = rw (not_empty v vs) at f in
        with_passed c a set DefaultValue (v ∷ vs) refl (values_accepted a (v ∷ vs) (or_empty (request_kinds (action_of a)) (values_fault a (v ∷ vs)) faults).1) rows p

defaults_passed : (c xs : List Rule) → Each (IsSet c) xs → (rows : List Row) → defaults_fault rows xs ≡ [] → Passed c rows → Passed c (fold with_default rows xs)
unfolding defaults_fault
defaults_passed c [] sets rows e p = p
defaults_passed c (a ∷ xs) sets rows e p =
    let parts = or_empty _ _ e in
    defaults_passed c xs sets.1 (with_default rows a) parts.1 (default_passed c a sets.0 rows parts.0 p)

-- each row at the end of a level that clap has no refusal for
pub level_passed : (s : Shape) → Each (IsSet s.rules) s.rules → (names : Names) (words : List Text) (has_subcommand : Bool) (below : Kinds)
    → level_fault s names nothing_held words has_subcommand below ≡ []
    → Passed s.rules (rows_after s.rules names words) × (check_fault s (rows_after s.rules names words) has_subcommand ≡ [])
level_passed s sets names words has_subcommand below e =
    let end = (walk.walk s.rules names nothing_held words).held in
    let one = or_empty _ _ e in
    let two = or_empty below _ one.1 in
    let three = or_empty (settle_fault s.rules s.args_override_self end) _ two.1 in
    let four = or_empty (defaults_fault (settled s.rules end).rows s.rules) _ three.1 in
    let at_end = walk_passed s sets names (walk.walk_from nothing_held) words one.0 tt in
    let at_settled = settled_passed s.rules sets s.args_override_self end three.0 at_end in
    (defaults_passed s.rules s.rules sets (settled s.rules end).rows four.0 at_settled, four.1)

-- ---- the value of a row

-- the first value of a name that has a row
pub row_value : (c : List Rule) (name : Text) (a : Rule) → arg_by_id c name ≡ Some a → (rows : List Row) → Passed c rows → has_row name rows ≡ true
    → HasValue (value_passes a) name rows
row_value c name a here [] p e = cc
row_value c name a here (r ∷ rs) p e = go (bytes_eq r.id name) refl e (row_value c name a here rs p.1)
  where
    first_value : (x : Rule) (how : Reading) (values : List Text) → x ≡ a → how ≡ AsWritten → has_some values ≡ true → values_pass x values ≡ true
        → (t : Text) × (slice_get values 0 ≡ Some t) × (option_map (read_as how) (slice_get values 0) ≡ Some t) × (value_passes a t ≡ true)
    first_value x how [] is_a written some passes = cc
    first_value x how (v ∷ vs) is_a written some passes =
        (v, refl, rw written refl, subst (λ (y : Rule). value_passes y v ≡ true) is_a (both (value_passes x v) _ passes).0)

    go : (b : Bool) → bytes_eq r.id name ≡ b → (b || has_row name rs) ≡ true → (has_row name rs ≡ true → HasValue (value_passes a) name rs)
        → (t : Text) × (option_and_then (λ x. slice_get x.values 0) (if b then Some r else find (λ x. bytes_eq x.id name) rs) ≡ Some t)
        × (option_and_then walk.row_text (if b then Some r else find (λ x. bytes_eq x.id name) rs) ≡ Some t) × (value_passes a t ≡ true)
    go true at f later =
        let of : arg_by_id c name ≡ Some p.0.rule = ap (arg_by_id c) (sym (same _ _ at)) ∙ p.0.of in
        first_value p.0.rule r.reading r.values (some_is _ _ (sym of ∙ here)) p.0.reading p.0.some p.0.passes
    go false at f later = later f

-- ---- which names have a row

or_stays : (a b c : Bool) → (a || b) ≡ true → (b ≡ true → c ≡ true) → (a || c) ≡ true
or_stays true b c e k = refl
or_stays false b c e k = k e

rows_stay : (name id : Text) (s : ValueSource) (values : List Text) (missing rows : List Row) → has_row name rows ≡ true
    → has_row name (at_row id (more_values s values) missing rows) ≡ true
rows_stay name id s values missing [] e = cc
rows_stay name id s values missing (r ∷ rs) e = go (bytes_eq r.id id) (rows_stay name id s values missing rs)
  where
    go : (b : Bool) → (has_row name rs ≡ true → has_row name (at_row id (more_values s values) missing rs) ≡ true)
        → has_row name (if b then more_values s values r ++ rs else r ∷ at_row id (more_values s values) missing rs) ≡ true
    go true later = e
    go false later = or_stays (bytes_eq r.id name) (has_row name rs) _ e later

written : (id : Text) (s : ValueSource) (values : List Text) (new : Row) → new.id ≡ id → (rows : List Row)
    → has_row id (at_row id (more_values s values) (new ∷ []) rows) ≡ true
written id s values new own [] = rw ((bytes_eq-Decides new.id id).1 own) refl
written id s values new own (r ∷ rs) = go (bytes_eq r.id id) refl (written id s values new own rs)
  where
    go : (b : Bool) → bytes_eq r.id id ≡ b → has_row id (at_row id (more_values s values) (new ∷ []) rs) ≡ true
        → has_row id (if b then more_values s values r ++ rs else r ∷ at_row id (more_values s values) (new ∷ []) rs) ≡ true
    go true e later = rw e refl
    go false e later = rw (e, later) refl

-- a default takes no row away
pub default_stays : (name : Text) (a : Rule) (rows : List Row) → has_row name rows ≡ true → has_row name (with_default rows a) ≡ true
default_stays name a rows e = go (has_row a.id rows) a.defaults
  where
    go : (b : Bool) (values : List Text) → has_row name (if b then rows else default_rows a.id (reading_by a) values rows) ≡ true
    go true values = e
    go false [] = e
    go false (v ∷ vs) = rows_stay name a.id DefaultValue (v ∷ vs) _ rows e

-- an argument with a default has a row
pub default_there : (a : Rule) (rows : List Row) → has_some a.defaults ≡ true → has_row a.id (with_default rows a) ≡ true
default_there a rows some = go (has_row a.id rows) refl a.defaults some
  where
    go : (b : Bool) → has_row a.id rows ≡ b → (values : List Text) → has_some values ≡ true
        → has_row a.id (if b then rows else default_rows a.id (reading_by a) values rows) ≡ true
    go true e values f = e
    go false e [] f = cc
    go false e (v ∷ vs) f = written a.id DefaultValue (v ∷ vs) _ refl rows

-- a name that was given has a row
pub given_there : (name : Text) (rows : List Row) → is_given name rows ≡ true → has_row name rows ≡ true
given_there name [] e = cc
given_there name (r ∷ rs) e = go (bytes_eq r.id name) e (given_there name rs)
  where
    go : (b : Bool) → option_map_or (λ x. explicit_source x.source) (if b then Some r else find (λ x. bytes_eq x.id name) rs) false ≡ true
        → (is_given name rs ≡ true → has_row name rs ≡ true) → (b || has_row name rs) ≡ true
    go true f later = refl
    go false f later = later f

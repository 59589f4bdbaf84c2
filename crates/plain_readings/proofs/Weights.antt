-- The weights of readings, by what they may ask for.
use Rattle.std.proofs.Common.{◌≡◌, ◌≤◌, ◌<◌, ℕ, ◌+◌, Bool, true, false, List, [], ◌∷◌, ◌++◌, refl, sym, subst, arith}
use Rattle.std.specs.Prelude.{if◌then◌else◌}
use Rattle.tex_defs.specs.declared.Name.{Name}
use Rattle.tex_defs.specs.declared.Token.{Token}
use Rattle.tex_defs.specs.declared.Seen.{Seen}
use Rattle.plain_tokens.specs.Categories.{begin_group, end_group}
use Rattle.plain_tokens.specs.Tokens.{has_category, means_category}
use Rattle.plain_state.specs.Definitions as build
use Rattle.tex_syntax.specs.declared.words.Report.{Report}
use Rattle.tex_syntax.specs.declared.words.Report.TheVariants.{BadCharacterCode, BadRegisterCode}
use Rattle.equivalents.specs.declared.values.Loc.{Loc}
use Rattle.equivalents.specs.Locations.{SeenValue}
use Rattle.rows.specs.declared.words.Value.{Value}
use Rattle.rows.specs.declared.words.Keyword.{Keyword as Word}
use Rattle.rows.specs.declared.words.Keyword.TheVariants as word
use Rattle.rows.specs.declared.words.Phrase.{Phrase}
use Rattle.rows.specs.declared.words.Phrase.TheVariants.{Command, Integer, Factor, Dimension, Glue, Keyword, Text, Definition}
use Rattle.rows.specs.declared.command.Call.{Call}
use Rattle.rows.specs.declared.command.Effect.{Effect}
use Rattle.rows.specs.declared.command.Effect.TheVariants.{ExpandBehind}
use Rattle.rows.specs.Readings.{Fed, Tok, Val, Noted, Fetched, Ask, More, Inner, Acts, ActsOn, Defines, Ends, Calls, Fails, RunsAway, Tells, Inserts, Puts, Relaxes, Fetches, Magnifies}
use Rattle.plain_readings.specs.Readings.{Kind, Reads, Spelling, FileName, Behind, Skips, Arguments, ask, lists}
use Rattle.plain_readings.specs.Lists.{build_ask, text, definition}
use Rattle.plain_readings.specs.Dimens as dimens
use Rattle.plain_readings.specs.declared.asks.DimenAsk.{DimenAsk}
use Rattle.plain_readings.specs.declared.asks.DimenAsk.TheVariants as dimen_asks
use Rattle.plain_readings.specs.declared.asks.DimenInner.TheVariants as dimen_inners
use Rattle.plain_readings.specs.Glues as glues
use Rattle.plain_readings.specs.declared.asks.GlueAsk.{GlueAsk}
use Rattle.plain_readings.specs.declared.asks.GlueAsk.TheVariants as glue_asks
use Rattle.plain_readings.specs.declared.asks.GlueInner.TheVariants as glue_inners
use Rattle.plain_readings.specs.Measures.{dimen_fed, dimen_ask, glue_fed, glue_ask}
use Rattle.plain_readings.specs.Laws.{IsRead, rank, Starts, Lends, GivesValue, IsValueless, IsSingle}
use Rattle.plain_readings.specs.Weights.{value_frame, act_frame, frame_weight, value_weight, act_weight, behind_weight, effect_weight, end_weight, fetching_behind, begins_with, ask_weight, weight, IsNoted, IsLast}
use Rattle.plain_readings.proofs.IntegerWeights.{Wants, integer_falls, integer_light}
use Rattle.plain_readings.proofs.Factors.{factor_weighs, factor_falls}
use Rattle.plain_readings.proofs.Follows.{few_behind}
use Rattle.plain_readings.proofs.Measuring.{met_last, dimension_noted, glue_noted, dimension_fetched, glue_fetched}
use Rattle.plain_readings.proofs.Starting.{starts}
use Rattle.plain_readings.proofs.Keywords.{keyword_falls, keyword_light}
use Rattle.plain_readings.proofs.Lower.{begun_low}
use Rattle.plain_readings.proofs.Lending.{lends}
use Rattle.plain_readings.proofs.Values.{values}
use Rattle.plain_readings.proofs.Notes.{notes_due, told_quiet}

-- WHAT ASKS WEIGH

effect_heavy : (e : Effect) → act_weight ≤ effect_weight e
effect_heavy (ExpandBehind x y) = omega arith
effect_heavy e = omega arith

pub effect_light : (e : Effect) → effect_weight e ≤ behind_weight
effect_light (ExpandBehind x y) = omega arith
effect_light e = omega arith

pub fetching_light : (report : Report) → fetching_behind report ≤ 3
fetching_light (BadCharacterCode n) = omega arith
fetching_light (BadRegisterCode n) = omega arith
fetching_light report = omega arith

-- one that began with a token, of an integer, a keyword, a text or a definition

built_if : (c : Bool) (p q : build.Answer) → ask_weight value_weight (build_ask p) < 60 → ask_weight value_weight (build_ask q) < 60 → ask_weight value_weight (build_ask (if c then p else q)) < 60
built_if true p q h i = h
built_if false p q h i = i

text_light : (name : Name) (expanded : Bool) (x : Seen) → weight (Reads (Text name expanded)) (Tok x ∷ []) < 60
text_light name expanded x = built_if (means_category begin_group x.meaning) _ _ (omega arith) (omega arith)

definition_light : (name : Name) (expanded : Bool) (x : Seen) → weight (Reads (Definition name expanded)) (Tok x ∷ []) < 60
definition_light name expanded x =
    built_if (has_category begin_group x.token) _ _ (omega arith)
    (built_if (has_category end_group x.token) _ _ (omega arith) (built_if (build.is_parameter x) _ _ (omega arith) (omega arith)))

-- a dimension weighs no more than one that begins a factor with a token
dimension_light : (a : DimenAsk) → ask_weight value_weight (dimen_ask a) ≤ 70
dimension_light (dimen_asks.More want) = omega arith
dimension_light (dimen_asks.Begins i false) = omega arith
dimension_light (dimen_asks.Begins dimen_inners.Factor true) = omega arith
dimension_light (dimen_asks.Begins dimen_inners.Number true) = omega arith
dimension_light (dimen_asks.Begins (dimen_inners.Key w) true) = omega arith
dimension_light (dimen_asks.Fetches l) = omega arith
dimension_light dimen_asks.Magnifies = omega arith
dimension_light (dimen_asks.Tells report back) = omega (arith, few_behind report)
dimension_light (dimen_asks.Done n order back) = omega arith

-- and glue no more than glue that begins a dimension so
glue_light : (a : GlueAsk) → ask_weight value_weight (glue_ask a) ≤ 81
glue_light (glue_asks.More want) = omega arith
glue_light (glue_asks.Begins i false) = omega arith
glue_light (glue_asks.Begins (glue_inners.Dimension k) true) = omega arith
glue_light (glue_asks.Begins glue_inners.Number true) = omega arith
glue_light (glue_asks.Begins (glue_inners.Key w) true) = omega arith
glue_light (glue_asks.Fetches l) = omega arith
glue_light (glue_asks.Tells report) = omega (arith, few_behind report)
glue_light (glue_asks.Done g) = omega arith

-- what a reading begins with a token, and no command
pub with_light : (j : Phrase) (x : Seen) → rank (Reads j) < 4 → frame_weight (Reads j) + weight (Reads j) (Tok x ∷ []) < begins_with j
with_light (Command c) x low = absurd (omega (arith, low))
with_light Integer x low = omega (arith, integer_light x)
with_light Factor x low = omega (arith, integer_light x, factor_weighs (Tok x ∷ []))
with_light (Dimension k) x low = omega (arith, dimension_light (dimens.dimension k false (dimen_fed (Tok x ∷ []))))
with_light (Glue mu) x low = omega (arith, glue_light (glues.glue mu false (glue_fed (Tok x ∷ []))))
with_light (Keyword w) x low = omega (arith, keyword_light w x)
with_light (Text name expanded) x low = omega (arith, text_light name expanded x)
with_light (Definition name expanded) x low = omega (arith, definition_light name expanded x)

-- only keywords put tokens back, and weigh no more than the end of `\expandafter`, and one more, then
abbrev pub PutsLight : ℕ → Ask → Type 0
PutsLight n (Puts t more) = n + 1 + more ≤ behind_weight + 1
PutsLight n a = Unit {0}

valueless_puts : (n : ℕ) (a : Ask) → IsValueless a → PutsLight n a
valueless_puts n (Puts t more) h = absurd h
valueless_puts n a h = tt

value_puts : (k : Phrase) (held : List (List Token)) (n : ℕ) (a : Ask) → n ≡ value_weight → GivesValue k held a → PutsLight n a
value_puts (Keyword w) held n (Puts t more) e h = omega (arith, e, h)
value_puts k held n (Puts t more) e h = absurd h
value_puts k held n a e h = tt

pub puts_light : (k : Kind) (fed : List Fed) → PutsLight (end_weight k) (ask k fed)
puts_light (Reads (Command c)) fed = valueless_puts behind_weight (ask (Reads (Command c)) fed) (values (Reads (Command c)) fed)
puts_light (Reads k) fed = value_puts k (lists (Reads k) fed) value_weight (ask (Reads k) fed) refl (values (Reads k) fed)
puts_light k fed = valueless_puts behind_weight (ask k fed) (values k fed)

end_light : (k : Kind) → end_weight k ≤ behind_weight
end_light (Reads (Command c)) = omega arith
end_light (Reads k) = omega arith
end_light k = omega arith

-- any, but for a reading that begins with a token
unlent_light : (n : ℕ) (a : Ask) → n ≤ behind_weight → PutsLight n a → Lends false a → ask_weight n a ≤ 65
unlent_light n (Inner j true) e p h = absurd cc
unlent_light n (Inner j false) e p h = omega arith
unlent_light n (Acts c f) e p h = omega (arith, effect_light f)
unlent_light n (Tells report back) e p h = omega (arith, e, few_behind report)
unlent_light n (Inserts t report back) e p h = omega (arith, e, few_behind report)
unlent_light n (Puts t more) e p h = omega (arith, p)
unlent_light n (Relaxes c name) e p h = omega (arith, e)
unlent_light n (Fetches l) e p h = omega (arith, e)
unlent_light n Magnifies e p h = omega (arith, e)
unlent_light n a e p h = omega arith

begins_few : (j : Phrase) → begins_with j ≤ 92
begins_few (Dimension k) = omega arith
begins_few (Glue mu) = omega arith
begins_few j = omega arith

pub any_light : (n : ℕ) (a : Ask) → n ≤ behind_weight → PutsLight n a → ask_weight n a ≤ 92
any_light n (Inner j true) e p = begins_few j
any_light n (Inner j false) e p = omega arith
any_light n (Acts c f) e p = omega (arith, effect_light f)
any_light n (Tells report back) e p = omega (arith, e, few_behind report)
any_light n (Inserts t report back) e p = omega (arith, e, few_behind report)
any_light n (Puts t more) e p = omega (arith, p)
any_light n (Relaxes c name) e p = omega (arith, e)
any_light n (Fetches l) e p = omega (arith, e)
any_light n Magnifies e p = omega (arith, e)
any_light n a e p = omega arith

-- where nothing is due, nothing begins with a token, and it has no value, it weighs no more than an end
quiet_light : (n : ℕ) (a : Ask) → Lends false a → IsValueless a → notes_due a ≡ 0 → ask_weight n a ≤ behind_weight
quiet_light n (Inner j true) h v q = absurd cc
quiet_light n (Inner j false) h v q = omega arith
quiet_light n (Acts c f) h v q = effect_light f
quiet_light n (Tells report back) h v q = omega (arith, q)
quiet_light n (Inserts t report back) h v q = omega (arith, q)
quiet_light n (Puts t more) h v q = absurd v
quiet_light n (Relaxes c name) h v q = omega (arith, q)
quiet_light n (Fetches l) h v q = absurd v
quiet_light n Magnifies h v q = absurd v
quiet_light n a h v q = omega arith

-- nor does what builds a list
built_quiet : (n : ℕ) (a : build.Answer) → notes_due (build_ask a) ≡ 0 → ask_weight n (build_ask a) ≤ value_weight
built_quiet n (build.More want list) q = omega arith
built_quiet n (build.Tells report back list) q = omega (arith, q)
built_quiet n (build.Done list) q = omega arith

pub note_heavy : (n : ℕ) (a : Ask) → IsNoted a → n < ask_weight n a
note_heavy n (Tells report back) h = omega arith
note_heavy n (Inserts t report back) h = omega arith
note_heavy n (Puts t more) h = omega arith
note_heavy n (Relaxes c name) h = omega arith
note_heavy n Magnifies h = omega arith
note_heavy n a h = absurd h

-- BEHIND AN ITEM

abbrev IsNoToken : Fed → Type 0
IsNoToken (Tok x) = ⊥
IsNoToken y = Unit {0}

unlent : (k : Kind) (fed : List Fed) (y : Fed) → IsNoToken y → Lends false (ask k (fed ++ y ∷ []))
unlent k fed (Tok x) h = absurd h
unlent k fed y h = subst (λ (b : Bool). Lends b (ask k (fed ++ y ∷ []))) (met_last y false fed) (lends k (fed ++ y ∷ []))

-- behind its note a reading weighs no more than its end, where nothing begins with a token; an integer may ask for a value then
note_light : (k : Kind) (fed : List Fed) → end_weight k ≡ behind_weight → IsSingle k → IsValueless (ask k (fed ++ Noted ∷ [])) → weight k (fed ++ Noted ∷ []) ≤ end_weight k
note_light k fed e s v = omega (arith, e, quiet_light (end_weight k) (ask k (fed ++ Noted ∷ [])) (unlent k fed Noted tt) v (told_quiet k fed s))

noted_if_light : (k : Kind) (fed : List Fed) → IsNoted (ask k fed) → weight k (fed ++ Noted ∷ []) ≤ end_weight k → weight k (fed ++ Noted ∷ []) < weight k fed
noted_if_light k fed h light = omega (arith, light, note_heavy (end_weight k) (ask k fed) h)

note_wanted : (a : Ask) → IsNoted a → Wants a Noted
note_wanted (Tells report back) h = tt
note_wanted (Inserts t report back) h = tt
note_wanted (Puts t more) h = tt
note_wanted (Relaxes c name) h = tt
note_wanted Magnifies h = tt
note_wanted a h = absurd h

pub noted : (k : Kind) (fed : List Fed) → IsNoted (ask k fed) → weight k (fed ++ Noted ∷ []) < weight k fed
noted (Reads (Command c)) fed h = noted_if_light (Reads (Command c)) fed h (note_light (Reads (Command c)) fed refl tt (values (Reads (Command c)) (fed ++ Noted ∷ [])))
noted (Reads Integer) fed h = integer_falls Noted false fed (note_wanted (ask (Reads Integer) fed) h)
noted (Reads Factor) fed h = factor_falls Noted fed (note_wanted (ask (Reads Factor) fed) h)
noted (Reads (Dimension k)) fed h = dimension_noted k fed h
noted (Reads (Glue mu)) fed h = glue_noted mu fed h
noted (Reads (Keyword w)) fed h = keyword_falls w fed h
noted (Reads (Text name expanded)) fed h =
    noted_if_light (Reads (Text name expanded)) fed h (built_quiet value_weight (text name expanded (fed ++ Noted ∷ [])) (told_quiet (Reads (Text name expanded)) fed tt))
noted (Reads (Definition name expanded)) fed h =
    noted_if_light (Reads (Definition name expanded)) fed h (built_quiet value_weight (definition name expanded (fed ++ Noted ∷ [])) (told_quiet (Reads (Definition name expanded)) fed tt))
noted (Spelling c) fed h = noted_if_light (Spelling c) fed h (note_light (Spelling c) fed refl tt (values (Spelling c) (fed ++ Noted ∷ [])))
noted (FileName c) fed h = noted_if_light (FileName c) fed h (note_light (FileName c) fed refl tt (values (FileName c) (fed ++ Noted ∷ [])))
noted (Behind c x) fed h = noted_if_light (Behind c x) fed h (note_light (Behind c x) fed refl tt (values (Behind c x) (fed ++ Noted ∷ [])))
noted (Skips c aim line) fed h = noted_if_light (Skips c aim line) fed h (note_light (Skips c aim line) fed refl tt (values (Skips c aim line) (fed ++ Noted ∷ [])))
noted (Arguments name long number ts) fed h =
    noted_if_light (Arguments name long number ts) fed h (note_light (Arguments name long number ts) fed refl tt (values (Arguments name long number ts) (fed ++ Noted ∷ [])))

-- only an integer, a factor, a dimension and glue ask for what stands at a location
valueless_fetches : (a : Ask) (l : Loc) → IsValueless a → a ≡ Fetches l → ⊥
valueless_fetches a l v e = subst (λ (a : Ask). IsValueless a) e v

built_fetches : (a : build.Answer) (l : Loc) → build_ask a ≡ Fetches l → ⊥
built_fetches (build.More want list) l e = cc
built_fetches (build.Tells report back list) l e = cc
built_fetches (build.Done list) l e = cc

keyword_fetches : (held : List (List Token)) (w : Word) (a : Ask) (l : Loc) → GivesValue (Keyword w) held a → a ≡ Fetches l → ⊥
keyword_fetches held w a l v e = subst (λ (a : Ask). GivesValue (Keyword w) held a) e v

pub fetched : (k : Kind) (fed : List Fed) (l : Loc) (v : SeenValue) → ask k fed ≡ Fetches l → weight k (fed ++ Fetched v ∷ []) < weight k fed
fetched (Reads (Command c)) fed l v e = absurd (valueless_fetches (ask (Reads (Command c)) fed) l (values (Reads (Command c)) fed) e)
fetched (Reads Integer) fed l v e = integer_falls (Fetched v) false fed (subst (λ (a : Ask). Wants a (Fetched v)) (sym e) tt)
fetched (Reads Factor) fed l v e = factor_falls (Fetched v) fed (subst (λ (a : Ask). Wants a (Fetched v)) (sym e) tt)
fetched (Reads (Dimension k)) fed l v e = dimension_fetched k fed l v e
fetched (Reads (Glue mu)) fed l v e = glue_fetched mu fed l v e
fetched (Reads (Keyword w)) fed l v e = absurd (keyword_fetches [] w (ask (Reads (Keyword w)) fed) l (values (Reads (Keyword w)) fed) e)
fetched (Reads (Text name expanded)) fed l v e = absurd (built_fetches (text name expanded fed) l e)
fetched (Reads (Definition name expanded)) fed l v e = absurd (built_fetches (definition name expanded fed) l e)
fetched (Spelling c) fed l v e = absurd (valueless_fetches (ask (Spelling c) fed) l (values (Spelling c) fed) e)
fetched (FileName c) fed l v e = absurd (valueless_fetches (ask (FileName c) fed) l (values (FileName c) fed) e)
fetched (Behind c x) fed l v e = absurd (valueless_fetches (ask (Behind c x) fed) l (values (Behind c x) fed) e)
fetched (Skips c aim line) fed l v e = absurd (valueless_fetches (ask (Skips c aim line) fed) l (values (Skips c aim line) fed) e)
fetched (Arguments name long number ts) fed l v e =
    absurd (valueless_fetches (ask (Arguments name long number ts) fed) l (values (Arguments name long number ts) fed) e)

-- THE RULES

-- a reading that has a value asks for a token at first
keyword_first : (w : Word) → weight (Reads (Keyword w)) [] ≡ 0
keyword_first word.By = refl
keyword_first word.Plus = refl
keyword_first word.Minus = refl
keyword_first word.Fil = refl
keyword_first word.L = refl
keyword_first word.True = refl
keyword_first word.Em = refl
keyword_first word.Ex = refl
keyword_first word.Pt = refl
keyword_first word.In = refl
keyword_first word.Pc = refl
keyword_first word.Cm = refl
keyword_first word.Mm = refl
keyword_first word.Bp = refl
keyword_first word.Dd = refl
keyword_first word.Cc = refl
keyword_first word.Sp = refl
keyword_first word.Mu = refl

first_light : (j : Phrase) → rank (Reads j) < 4 → frame_weight (Reads j) + weight (Reads j) [] ≡ value_frame
first_light (Command c) low = absurd (omega (arith, low))
first_light Integer low = refl
first_light Factor low = refl
first_light (Dimension k) low = refl
first_light (Glue mu) low = refl
first_light (Keyword w) low = rw (keyword_first w) refl
first_light (Text name expanded) low = refl
first_light (Definition name expanded) low = refl

start_light : (m n : ℕ) (a : Ask) → Starts n a → ask_weight m a ≤ 11
start_light m n (More want) h = omega arith
start_light m n (Inner j false) h = omega arith
start_light m n (Inner j true) h = absurd cc
start_light m n a h = absurd h

pub begins_light : (k : Kind) → IsRead k → weight k [] ≤ 11
begins_light k h = start_light (end_weight k) (rank k) (ask k []) (starts k h)

pub begun : (k : Kind) (fed : List Fed) (j : Phrase) → ask k fed ≡ Inner j false → frame_weight (Reads j) + weight (Reads j) [] < weight k fed
begun k fed j e =
    let heavy : weight k fed ≡ 11 = subst (λ (a : Ask). ask_weight (end_weight k) a ≡ 11) (sym e) refl in
    omega (arith, heavy, first_light j (begun_low k fed j false e))

pub begun_with : (k : Kind) (fed : List Fed) (j : Phrase) (x : Seen) → ask k fed ≡ Inner j true → frame_weight (Reads j) + weight (Reads j) (Tok x ∷ []) < weight k fed
begun_with k fed j x e =
    let heavy : weight k fed ≡ begins_with j = subst (λ (a : Ask). ask_weight (end_weight k) a ≡ begins_with j) (sym e) refl in
    omega (arith, heavy, with_light j x (begun_low k fed j true e))

pub valued : (k : Kind) (fed : List Fed) (v : Value) (ts : List Token) → weight k (fed ++ Val v ts ∷ []) < value_frame + value_weight
valued k fed v ts = omega (arith, unlent_light (end_weight k) (ask k (fed ++ Val v ts ∷ [])) (end_light k) (puts_light k (fed ++ Val v ts ∷ [])) (unlent k fed (Val v ts) tt))

pub acted : (k : Kind) (fed : List Fed) → weight k fed < act_frame + act_weight
acted k fed = omega (arith, any_light (end_weight k) (ask k fed) (end_light k) (puts_light k fed))

-- what has a value doesn't end otherwise
value_lasts : (k : Phrase) (held : List (List Token)) (a : Ask) → GivesValue k held a → IsLast a → ⊥
value_lasts k held (Acts c e) v h = v
value_lasts k held (ActsOn c e ts) v h = v
value_lasts k held (Defines c n ts) v h = v
value_lasts k held Ends v h = v
value_lasts k held (Calls args) v h = v
value_lasts k held (Fails report) v h = v
value_lasts k held (RunsAway report) v h = v
value_lasts k held a v h = h

pub ends : (k : Kind) (fed : List Fed) → IsLast (ask k fed) → frame_weight k ≡ act_frame
ends (Reads (Command c)) fed h = refl
ends (Reads k) fed h = absurd (value_lasts k (lists (Reads k) fed) (ask (Reads k) fed) (values (Reads k) fed) h)
ends k fed h = refl

pub frames : (k : Kind) → (value_frame ≤ frame_weight k) × (frame_weight k ≤ act_frame)
frames (Reads (Command c)) = (omega arith, omega arith)
frames (Reads k) = (omega arith, omega arith)
frames k = (omega arith, omega arith)

pub heavy : (e : Effect) → act_weight ≤ effect_weight e
heavy e = effect_heavy e

pub begun_by_act : (k : Kind) → IsRead k → weight k [] < act_weight
begun_by_act k h = omega (arith, begins_light k h)

behind_heavy : (k : Kind) (fed : List Fed) (c : Call) (x y : Seen) → ask k fed ≡ Acts c (ExpandBehind x y) → weight k fed ≡ behind_weight
behind_heavy k fed c x y e = subst (λ (a : Ask). ask_weight (end_weight k) a ≡ behind_weight) (sym e) refl

pub waits : (k : Kind) (fed : List Fed) (c d : Call) (x y z : Seen) → ask k fed ≡ Acts c (ExpandBehind x y) → weight (Behind d z) [] < weight k fed
waits k fed c d x y z e = omega (arith, behind_heavy k fed c x y e)

pub expanded_behind : (k : Kind) (fed : List Fed) (c : Call) (x y : Seen) (j : Kind) → ask k fed ≡ Acts c (ExpandBehind x y) → IsRead j → frame_weight j + weight j [] < weight k fed
expanded_behind k fed c x y j e h =
    let few : (value_frame ≤ frame_weight j) × (frame_weight j ≤ act_frame) = frames j in
    omega (arith, behind_heavy k fed c x y e, begins_light j h, few.1)

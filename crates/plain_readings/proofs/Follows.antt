-- What a reading of a dimension or of glue may ask for behind what it asked for, by what it was fed with: how much that weighs, and how many reports
-- may come. Of this the laws follow.
use Rattle.std.proofs.Common.{◌≡◌, ◌≤◌, ◌<◌, ℕ, ◌+◌, ◌-◌, true, false, refl, sym, subst, arith}
use Rattle.equivalents.specs.declared.values.Loc.{Loc}
use Rattle.tex_syntax.specs.declared.words.Report.{Report}
use Rattle.tex_syntax.specs.declared.words.Report.TheVariants.{BadCharacterCode, BadRegisterCode, MissingNumber, IncompatibleUnits}
use Rattle.rows.specs.declared.words.Phrase.{Phrase}
use Rattle.rows.specs.declared.words.Phrase.TheVariants.{Dimension, Glue}
use Rattle.rows.specs.Readings.{Ask, Inner, Tells, Inserts, Puts, Relaxes, Fetches, Magnifies}
use Rattle.plain_readings.specs.Laws.{Lends, after, reports_due}
use Rattle.plain_readings.specs.Weights.{value_weight, fetching_behind, begins_with, ask_weight, IsNoted}

-- an item: a token, the value of an inner reading, a note, or what stands at a location
pub data Item : Type 0 where
  Token : Item
  Value : Item
  Note : Item
  Standing : Item

abbrev pub weighs : Ask → ℕ
weighs a = ask_weight value_weight a

abbrev pub Follows : Item → Ask → Ask → Type 0
Follows Token a b = Unit {0}
Follows Note (Tells report back) b = (weighs b ≤ value_weight + after report + fetching_behind report) × (reports_due b ≤ after report)
Follows Note Magnifies b = (weighs b ≤ value_weight + 3) × (reports_due b ≤ 0)
Follows Note a b = weighs b ≤ value_weight
Follows Standing (Fetches l) b = weighs b ≤ value_weight + 2
Follows i a b = weighs b ≤ value_weight + 4

-- WHAT WEIGHS NO MORE THAN AN END reports nothing, and may follow anything

light_quiet : (b : Ask) → weighs b ≤ value_weight → reports_due b ≡ 0
light_quiet (Tells report back) h = absurd (omega (arith, h))
light_quiet (Inserts t report back) h = absurd (omega (arith, h))
light_quiet b h = refl

pub light_follows : (i : Item) (a b : Ask) → weighs b ≤ value_weight → Follows i a b
light_follows Token a b h = tt
light_follows Value a b h = omega (arith, h)
light_follows Note (Tells report back) b h = (omega (arith, h), omega (arith, light_quiet b h))
light_follows Note Magnifies b h = (omega (arith, h), omega (arith, light_quiet b h))
light_follows Note a b h = h
light_follows Standing (Fetches l) b h = omega (arith, h)
light_follows Standing a b h = omega (arith, h)

-- THE LAWS

pub few_behind : (report : Report) → after report + fetching_behind report ≤ 3
few_behind MissingNumber = omega arith
few_behind IncompatibleUnits = omega arith
few_behind (BadCharacterCode n) = omega arith
few_behind (BadRegisterCode n) = omega arith
few_behind report = omega arith

pub begins_heavy : (j : Phrase) → 70 ≤ begins_with j
begins_heavy (Dimension k) = omega arith
begins_heavy (Glue mu) = omega arith
begins_heavy j = omega arith

light_unlent : (b : Ask) → weighs b ≤ value_weight + 4 → Lends false b
light_unlent (Inner j true) h = absurd (omega (arith, h, begins_heavy j))
light_unlent (Inner j false) h = tt
light_unlent b h = tt

abbrev pub IsNoToken : Item → Type 0
IsNoToken Token = ⊥
IsNoToken i = Unit {0}

follows_light : (i : Item) (a b : Ask) → IsNoToken i → Follows i a b → weighs b ≤ value_weight + 4
follows_light Token a b h f = absurd h
follows_light Value a b h f = f
follows_light Note (Tells report back) b h f = omega (arith, f.0, few_behind report)
follows_light Note Magnifies b h f = omega (arith, f.0)
follows_light Note a b h f = omega (arith, f)
follows_light Standing (Fetches l) b h f = omega (arith, f)
follows_light Standing a b h f = f

pub unlent : (i : Item) (a b : Ask) → IsNoToken i → Follows i a b → Lends false b
unlent i a b h f = light_unlent b (follows_light i a b h f)

pub noted_lighter : (a b : Ask) → IsNoted a → Follows Note a b → weighs b < weighs a
noted_lighter (Tells report back) b h f = omega (arith, f.0)
noted_lighter Magnifies b h f = omega (arith, f.0)
noted_lighter (Inserts t report back) b h f = omega (arith, f)
noted_lighter (Puts t more) b h f = omega (arith, f)
noted_lighter (Relaxes c n) b h f = omega (arith, f)
noted_lighter a b h f = absurd h

pub reports_fewer : (a b : Ask) → Follows Note a b → reports_due b ≤ reports_due a - 1
reports_fewer (Tells report back) b f = omega (arith, f.1)
reports_fewer Magnifies b f = omega (arith, f.1)
reports_fewer a b f = omega (arith, light_quiet b f)

pub fetched_lighter : (a b : Ask) (l : Loc) → a ≡ Fetches l → Follows Standing a b → weighs b < weighs a
fetched_lighter a b l e f =
    let g : Follows Standing (Fetches l) b = subst (λ (a : Ask). Follows Standing a b) e f in
    let heavy : weighs a ≡ value_weight + 3 = subst (λ (a : Ask). weighs a ≡ value_weight + 3) (sym e) refl in
    omega (arith, g, heavy)

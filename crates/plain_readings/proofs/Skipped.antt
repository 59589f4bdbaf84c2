-- The reading that skips text ends it where the count of the conditionals that are open in it does.
use Rattle.std.proofs.Common.{◌≡◌, ℕ, suc, ◌+◌, ◌<◌, List, [], ◌∷◌, length, map, take, Option, Some, None, refl, ap, subst, arith}
use Rattle.tex_defs.specs.declared.Seen.{Seen}
use Rattle.tex_syntax.specs.declared.words.Want.TheVariants.{Unentered}
use Rattle.conditionals.specs.declared.choice.Aim.{Aim}
use Rattle.conditionals.specs.declared.skip.Ender.{Ender}
use Rattle.conditionals.specs.Skipping.{part, ender_at, greatest_count, ends_at, open_behind, counted_from, counted}
use Rattle.conditionals.proofs.Counted.{texts_are_counted}
use Rattle.rows.specs.declared.command.Call.{Call}
use Rattle.rows.specs.declared.command.Effect.TheVariants.{Reach}
use Rattle.rows.specs.Readings.{Tok}
use Rattle.rows.specs.Commands.{CommandAsk, More, Acts, command_ask}
use Rattle.plain_readings.specs.Skips.{ended, skipping}
use Rattle.plain_readings.specs.Laws.{SkippedTexts}

module _ (c : Call) (aim : Aim) where
  -- at this token, or behind it
  reached_at : (o : Option Ender) (behind : Option (ℕ × Ender)) (k : ℕ) (e : Ender) (onward : CommandAsk) →
      ((j : ℕ) → behind ≡ Some (j, e) → suc j ≡ k → onward ≡ Acts c (Reach aim e)) → counted_from o behind ≡ Some (k, e) → ended c aim o onward ≡ Acts c (Reach aim e)
  reached_at (Some d) behind k e onward later h =
      let pair : ◌≡◌ {A = ℕ × Ender} (0, d) (k, e) = cc in ap (λ (p : ℕ × Ender). Acts c (Reach aim p.1)) pair
  reached_at None None k e onward later h = absurd cc
  reached_at None (Some (j, d)) k e onward later h =
      let pair : ◌≡◌ {A = ℕ × Ender} (suc j, d) (k, e) = cc in
      later j (ap (λ (p : ℕ × Ender). Some (j, p.1)) pair) (ap (λ (p : ℕ × Ender). p.0) pair)

  reached : (depth : ℕ) (text : List Seen) (k : ℕ) (e : Ender) → counted depth text ≡ Some (k, e) → skipping c aim depth (map Tok (take (suc k) text)) ≡ Acts c (Reach aim e)
  reached depth [] k e h = absurd cc
  reached depth (x ∷ text) k e h =
      reached_at (ends_at depth (part x.meaning)) (counted (open_behind depth (part x.meaning)) text) k e
      (skipping c aim (open_behind depth (part x.meaning)) (map Tok (take k text)))
      (λ j behind is. subst (λ (i : ℕ). skipping c aim (open_behind depth (part x.meaning)) (map Tok (take i text)) ≡ Acts c (Reach aim e)) is
      (reached (open_behind depth (part x.meaning)) text j e behind))
      h

  going_at : (o : Option Ender) (behind : Option (ℕ × Ender)) (onward : CommandAsk) → (behind ≡ None → onward ≡ More Unentered) → counted_from o behind ≡ None → ended c aim o onward ≡ More Unentered
  going_at (Some d) behind onward later h = absurd cc
  going_at None None onward later h = later refl
  going_at None (Some (j, d)) onward later h = absurd cc

  going : (depth : ℕ) (text : List Seen) → counted depth text ≡ None → skipping c aim depth (map Tok text) ≡ More Unentered
  going depth [] h = refl
  going depth (x ∷ text) h =
      going_at (ends_at depth (part x.meaning)) (counted (open_behind depth (part x.meaning)) text) _ (going (open_behind depth (part x.meaning)) text) h

-- where no token ends the text, the count doesn't
uncounted : (text : List Seen) (o : Option (ℕ × Ender)) → length text < greatest_count → counted 0 text ≡ o → ((k : ℕ) → ender_at text k ≡ None) → o ≡ None
uncounted text None small is none = refl
uncounted text (Some (k, e)) small is none =
    absurd (let some : ender_at text k ≡ Some e = (texts_are_counted.ends text k e small is).ends in let no : ender_at text k ≡ None = none k in cc)

pub skipped_texts : SkippedTexts
skipped_texts = record {
  reaches = λ c aim line text k e small s.
      let next : suc k ≡ k + 1 = omega arith in
      ap command_ask (subst (λ (i : ℕ). skipping c aim 0 (map Tok (take i text)) ≡ Acts c (Reach aim e)) next (reached c aim 0 text k e (texts_are_counted.all text k e small s)));
  goes_on = λ c aim line text small none. ap command_ask (going c aim 0 text (uncounted text (counted 0 text) small refl none));
}

use Rattle.std.proofs.Common.{◌≡◌, ◌≤◌, ℕ, List, sym, ap, ◌∙◌, arith, get_or, length, slice_set, ◌-◌}
use Rattle.tex_defs.specs.declared.Token.{Token}
use Rattle.rows.specs.Readings.{Fed}
use Rattle.plain_readings.specs.Keywords.{letters}
use Rattle.plain_readings.proofs.Keywords.{letters_few}
use Rattle.scan_dimens.specs.Resumes.{resume_at}
use Rattle.scan_dimens.specs.declared.keyword.KeywordPlace.{KeywordPlace}
use Rattle.scan_dimens.proofs.Letters.{refused, whole, goes_on, skipped}
use Rattle.scan_dimens.proofs.keyword.KeywordScan.feed_letter.Goals as goal
use Rattle.scan_dimens.proofs.keyword.KeywordScan.feed_letter.Goals.{then-is_letter+then-at-word, then-is_letter+else-at-word, else-is_letter+then-is_skipped, else-is_letter+else-is_skipped}

pub returns-clause-asks : goal.returns-clause-asks
returns-clause-asks c =
    let cs : List ℕ = letters c.args.self.now.keyword in
    let ts : List Token = c.args.self.now.tokens in
    let n : ℕ = c.args.read in
    let at : c.from-at.result ≡ n = c.from-at.ensures in
    let letter : get_or cs n 0 ≡ get_or c.letters-word.result.now c.from-at.result 0 =
    sym (ap (λ (l : List ℕ). get_or l c.from-at.result 0) c.letters-word.ensures ∙ ap (λ (i : ℕ). get_or cs i 0) at) in
    let few : n ≤ 4 = omega (arith, c.requires, letters_few c.args.self.now.keyword) in
    let to : (p : KeywordPlace) (fed : List Fed) → c.if-is_letter.self ≡ p →
    resume_at c.args.self.now.keyword (slice_set ts (4 - n) c.args.seen.token) p fed ≡
    resume_at c.args.self.now.keyword (slice_set ts (4 - c.from-at.result) c.args.seen.token) c.if-is_letter.self fed =
    λ p fed is.
    ap (λ (q : KeywordPlace). resume_at c.args.self.now.keyword (slice_set ts (4 - n) c.args.seen.token) q fed) (sym is) ∙
    ap (λ (i : ℕ). resume_at c.args.self.now.keyword (slice_set ts (4 - i) c.args.seen.token) c.if-is_letter.self fed) (sym at) in
    let size : length c.letters-word.result.now ≡ length cs = ap (λ (l : List ℕ). length l) c.letters-word.ensures in
    elim c.if-is_letter.branch [
      | then-is_letter+then-at-word w ↦ λ fed.
          whole cs ts n c.args.seen fed _ letter c.requires (sym c.is_letter.ensures ∙ w.if-is_letter.true) (omega (arith, w.if-at-word.true, at, size)) ∙ to _ fed w.self-is
      | then-is_letter+else-at-word w ↦ λ fed.
          goes_on cs ts n c.args.seen fed _ letter c.requires (sym c.is_letter.ensures ∙ w.if-is_letter.true) c.args.self.now.longest few ∙ to _ fed w.self-is
      | else-is_letter+then-is_skipped w ↦ λ fed.
          skipped cs ts n c.args.seen fed _ letter c.requires (sym c.is_letter.ensures ∙ w.if-is_letter.false) (sym (w.is_skipped.ensures ts c.args.self.now.longest) ∙ w.if-is_skipped.true) few ∙ to _ fed w.self-is
      | else-is_letter+else-is_skipped w ↦ λ fed.
          refused cs ts n c.args.seen fed _ letter c.requires (sym c.is_letter.ensures ∙ w.if-is_letter.false) (sym (w.is_skipped.ensures ts c.args.self.now.longest) ∙ w.if-is_skipped.false) c.args.self.now.longest few ∙ to _ fed w.self-is
    ]

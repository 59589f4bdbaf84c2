use Rattle.std.proofs.Common.{◌≡◌, ◌≤◌, ◌+◌, ◌-◌, ℕ, List, length, take, drop, arith, subst, sym, ap, ◌∙◌}
use Rattle.std.proofs.lemmas.List.{drop-take, drop-drop}
use Rattle.std.proofs.lemmas.Grind.{common_steps}
use Rattle.line_reader.specs.Ahead.{Ahead}
use Rattle.line_reader.proofs.window.Window.skip.Goals as goal

within : (bytes : List ℕ) (k n : ℕ) → n ≤ length (take k bytes) → n ≤ k
within bytes k n h = grind (arith, common_steps)

shifted : (bytes : List ℕ) (start last n : ℕ) → n ≤ length (take (last - start) (drop start bytes)) → take (last - (start + n)) (drop (start + n) bytes) ≡ drop n (take (last - start) (drop start bytes))
shifted bytes start last n h =
    let inside : n ≤ last - start = within (drop start bytes) (last - start) n h in
    let m : ℕ = last - (start + n) in
    let whole : n + m ≡ last - start = omega arith in
    ap (take m) (sym (drop-drop n start bytes)) ∙ sym (drop-take n m (drop start bytes)) ∙ ap (λ (k : ℕ). drop n (take k (drop start bytes))) whole

pub returns : goal.returns
returns c =
    let i = c.self.inside in
    let P : Ahead → Type 0 = λ a. c.args.count ≤ length a.bytes → (record { reader = i.reader; bytes = take (i.end - (i.start + c.args.count)) (drop (i.start + c.args.count) i.bytes) }) ≡ record a { bytes = drop c.args.count a.bytes } in
    subst P c.self.view_is (λ h. ap (λ (bytes : List ℕ). record { reader = i.reader; bytes = bytes }) (shifted i.bytes i.start i.end c.args.count h)) c.requires

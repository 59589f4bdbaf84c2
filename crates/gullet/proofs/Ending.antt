-- What is said of an end that hasn't come, and of one that has.
use Rattle.std.proofs.Common.{◌≡◌}
use Rattle.std.specs.Prelude.{Some, None, Result, Ok, Err, IfOk, OnOk, IsErrAnd, MatchResult}

-- behind an error nothing is said of what else had come
pub no_ok : {T E : Type 0} (P : E → Type 0) (Q : T → Type 0) → (r : Result T E) → IsErrAnd r P → IfOk r Q
no_ok P Q (Ok x) h = absurd h
no_ok P Q (Err e) h = tt

pub no_on : {T E : Type 0} (P : E → Type 0) (Q : Type 0) → (r : Result T E) → IsErrAnd r P → OnOk r Q
no_on P Q (Ok x) h = absurd h
no_on P Q (Err e) h = tt

-- the same of every error
pub on_end : {T E : Type 0} (P : E → Type 0) (Q : T → Type 0) (A : Type 0) → (r : Result T E) → IsErrAnd r P → A → MatchResult r Q (λ e. A)
on_end P Q A (Ok x) h a = absurd h
on_end P Q A (Err e) h a = a

-- where there is nothing, nothing is found
pub none_found : {A : Type 0} (x : A) → None ≡ Some x → ⊥
none_found x h = cc

-- facts of what is there or not, from an equation
use Rattle.std.proofs.Common.{◌≡◌, Option, Some, None, IsNone, IfSome, refl}
use Rattle.std.proofs.lemmas.Bool.{true≢false}

pub none-is : {A : Type 0} (o : Option A) → IsNone o → o ≡ None
none-is None h = refl
none-is (Some x) h = absurd (true≢false h)

pub is-none : {A : Type 0} (o : Option A) → o ≡ None → IsNone o
is-none o e = rw e refl

pub if-some : {A : Type 0} (o : Option A) (P : A → Type 0) → ((x : A) → o ≡ Some x → P x) → IfSome o P
if-some None P h = tt
if-some (Some x) P h = h x refl

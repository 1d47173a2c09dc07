-- What was written of the bytes that were read is the input's output.
use Rattle.std.proofs.Common.{◌≡◌, Result, Ok, Err, OnOk, IfOk, IsErrAnd, MatchResult, arith, subst, sym}
use Rattle.layout.proofs.Judged.{appends_judged}
use Rattle.layout.proofs.answer_open.Goals as goal

-- an `Ok` that `map_err` passes on
passed : {T E F : Type 0} (r : Result T E) (s : Result T F) (R : E → F → Type 0) (A P : Type 0)
    → MatchResult r (λ x. s ≡ Ok x) (λ e. IsErrAnd s (R e)) → OnOk r A → (A → P) → OnOk s P
passed (Ok x) s R A P same a f = subst (λ v. OnOk v P) (sym same) (f a)
passed (Err e) (Ok y) R A P same a f = absurd same
passed (Err e) (Err y) R A P same a f = tt

-- an `Ok` that came through `map_err`
came : {T E F : Type 0} (r : Result T E) (s : Result T F) (R : E → F → Type 0) (x : T) (P : T → Type 0)
    → MatchResult r (λ y. s ≡ Ok y) (λ e. IsErrAnd s (R e)) → s ≡ Ok x → IfOk r P → P x
came (Ok y) s R x P same is h = let e : y ≡ x = cc in subst P e h
came (Err e) (Ok y) R x P same is h = absurd same
came (Err e) (Err y) R x P same is h = cc

pub returns-clause-printed : goal.returns-clause-printed
returns-clause-printed g c =
    passed _ _ _ _ _ c.map_err-2.ensures.cases c.answer.ensures
    (appends_judged _ _ _ c.read_input.new.buf c.in_ok-n.n (omega arith)
    (came _ _ _ _ _ c.map_err.ensures.cases c.in_ok-n.was c.read_input.ensures.front))

-- An error that another call's error became.
use Rattle.std.proofs.Common.{◌≡◌, sym, subst, Result, Err}
use Rattle.std.specs.Result.{IsErr, IsErrAnd}
use Rattle.std.proofs.lemmas.Result.{err_from_is_err_and}
use Rattle.nats_live.specs.declared.error.LiveError.{LiveError}

pub err_by : {A : Type 0} (F : Result A LiveError → Type 0) (e : LiveError) (r : Result A LiveError) → IsErr r
    → IsErrAnd r (λ x. x ≡ e) → F (Err e) → F r
err_by F e r is same f =
    let x = err_from_is_err_and r same in
    subst F (sym x.1) (subst (λ (z : LiveError). F (Err z)) (sym x.2) f)

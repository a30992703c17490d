-- What a function returns where a call in it fails.
use Rattle.std.proofs.Common.{◌≡◌, sym, subst, Result, Ok, Err}
use Rattle.std.specs.Result.{IsErrAnd}
use Rattle.volume_model.specs.declared.fault.Fault.{Fault}
use Rattle.volume_model.specs.declared.fault.Fault.TheVariants.{NoMemory}
use Rattle.volume_model.specs.Common.{Fails, Gives}
use Rattle.quorum_expr.proofs.Levels.{Fails-at}

-- running out of memory fits each definition
pub wants : {X Y : Type 0} (view : X → Y) (r : Result X Fault) (defined : Result Y Fault) → IsErrAnd r (λ fault. fault ≡ NoMemory) → Gives view r defined
wants view (Ok x) defined h = absurd h
wants view (Err fault) defined h = subst (λ f. Fails f defined) (sym h) tt

-- a call that had to succeed failed if memory runs out, and so does what hands its fault on
pub handed : {U X Y : Type 0} (view : X → Y) (r : Result X Fault) (fault : Fault) (u : U) (y : Y) → Fails fault (Ok u) → IsErrAnd r (λ f. f ≡ fault) → Gives view r (Ok y)
handed view (Ok x) fault u y fails h = absurd h
handed view (Err e) fault u y fails h = subst (λ f. Fails f (Ok y)) (sym h) (Fails-at fault (Ok u) (Ok y) (λ is. absurd cc) fails)

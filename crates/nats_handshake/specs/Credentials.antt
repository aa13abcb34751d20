-- What a client authenticates by, for the server's nonce.
use Rattle.std.specs.Prelude.{◌≡◌, ℕ, List, Option, Some, None, Result, Ok, Err}
use Rattle.std.specs.Global.{Vec}
use Rattle.nats_names.specs.declared.cause.Cause.TheVariants as cause
use denote.Param.Members.{Mut}
use Rattle.nats_pool.specs.declared.auth.Auth.{Auth}
use Rattle.nats_pool.specs.declared.callbacks.SignerFn.{SignerFn}
use Rattle.nats_pool.specs.declared.callbacks.AuthFn.{AuthFn}
use Rattle.nats_pool.specs.Auths.{AuthValue, auth_value}
use Rattle.nats_handshake.specs.declared.error.ConnectErrorKind.{ConnectErrorKind}
use Rattle.nats_handshake.specs.declared.error.ConnectErrorKind.TheVariants as kind
use Rattle.nats_handshake.specs.Errors.{Failure}
use Rattle.nats_names.specs.declared.cause.Cause.{Cause}

module _ {Y : Type 0} {G : Y → Type 0} {h : Mut ((y : Y) × G y) (Vec ℕ × Unit {0}) (Result (Vec ℕ) (List ℕ))} where
  -- a signer may answer so to a nonce
  abbrev pub SignerAnswers : SignerFn Y G h → Vec ℕ → Result (Vec ℕ) (List ℕ) → Type 0
  SignerAnswers f nonce r = h.post (f.f.vtable, f.f.value) (nonce, tt) r

module _ {Y : Type 0} {G : Y → Type 0} {h : Mut ((y : Y) × G y) (Vec ℕ × Unit {0}) (Result Auth (List ℕ))} where
  -- an authentication callback may answer so to a nonce
  abbrev pub AuthAnswers : AuthFn Y G h → Vec ℕ → Result Auth (List ℕ) → Type 0
  AuthAnswers f nonce r = h.post (f.f.vtable, f.f.value) (nonce, tt) r

-- without a signature: the user, the password and the token
abbrev pub unsigned : AuthValue → AuthValue
unsigned a = record {
  jwt = None;
  nkey = None;
  username = a.username;
  password = a.password;
  token = a.token;
  signature = None;
}

-- the JWT and what a signer made of the nonce with them
abbrev pub signed : AuthValue → List ℕ → AuthValue
signed a signature = record (unsigned a) { jwt = a.jwt; signature = Some signature }

-- an answer of a signer, by content
abbrev pub signed_by : AuthValue → Result (Vec ℕ) (List ℕ) → Result AuthValue (List ℕ)
signed_by a (Ok signature) = Ok (signed a signature.items)
signed_by a (Err e) = Err e

-- an answer of an authentication callback, by content
abbrev pub told_by : Result Auth (List ℕ) → Result AuthValue (List ℕ)
told_by (Ok auth) = Ok (auth_value auth)
told_by (Err e) = Err e

-- what is answered to the nonce, where `Answers f v r` says that f may answer r to v
abbrev pub Asked : {F A : Type 0} → (F → Vec ℕ → Result A (List ℕ) → Type 0) → F → List ℕ → Result A (List ℕ) → Type 0
Asked Answers f nonce r = (v : Vec ℕ) × (v.items ≡ nonce) × Answers f v r

-- a signer signs the nonce
abbrev pub Signed : {F : Type 0} → (F → Vec ℕ → Result (Vec ℕ) (List ℕ) → Type 0) → F → AuthValue → List ℕ
    → Result AuthValue (List ℕ) → Type 0
Signed Answers f a nonce result = (r : Result (Vec ℕ) (List ℕ)) × Asked Answers f nonce r × (result ≡ signed_by a r)

-- where there are a JWT and a signer, the signer signs the nonce
abbrev pub SignedBy : {F : Type 0} → (F → Vec ℕ → Result (Vec ℕ) (List ℕ) → Type 0) → Option (List ℕ) → Option F
    → AuthValue → List ℕ → Result AuthValue (List ℕ) → Type 0
SignedBy Answers (Some jwt) (Some f) a nonce result = Signed Answers f a nonce result
SignedBy Answers (Some jwt) None a nonce result = result ≡ Ok (unsigned a)
SignedBy Answers None signer a nonce result = result ≡ Ok (unsigned a)

abbrev pub Told : {F : Type 0} → (F → Vec ℕ → Result Auth (List ℕ) → Type 0) → F → List ℕ
    → Result AuthValue (List ℕ) → Type 0
Told Answers f nonce result = (r : Result Auth (List ℕ)) × Asked Answers f nonce r × (result ≡ told_by r)

-- where there is an authentication callback, its answer takes the place of all of that
abbrev pub ToldBy : {F : Type 0} → (F → Vec ℕ → Result Auth (List ℕ) → Type 0) → Option F → List ℕ
    → AuthValue → Result AuthValue (List ℕ) → Type 0
ToldBy Answers (Some f) nonce own result = Told Answers f nonce result
ToldBy Answers None nonce own result = result ≡ Ok own

abbrev pub ThenTold : {F : Type 0} → (F → Vec ℕ → Result Auth (List ℕ) → Type 0) → Option F → List ℕ
    → Result AuthValue (List ℕ) → Result AuthValue (List ℕ) → Type 0
ThenTold Answers callback nonce (Ok own) result = ToldBy Answers callback nonce own result
ThenTold Answers callback nonce (Err e) result = result ≡ Err e

-- both, one after the other; a refusal of the first is the answer
abbrev pub Offers : {F G : Type 0} → (F → Vec ℕ → Result (Vec ℕ) (List ℕ) → Type 0)
    → (G → Vec ℕ → Result Auth (List ℕ) → Type 0) → Option F → Option G → AuthValue → List ℕ
    → Result AuthValue (List ℕ) → Type 0
Offers Signs Tells signer callback a nonce result = (own : Result AuthValue (List ℕ))
    × SignedBy Signs a.jwt signer a nonce own × ThenTold Tells callback nonce own result

-- a refusal of this kind and with this source tells a refusal of which P holds, or memory was wanting
abbrev pub RefusedAs : ConnectErrorKind → Option Cause → (Result AuthValue (List ℕ) → Type 0) → Type 0
RefusedAs kind.Authentication source P = (e : List ℕ) × (source ≡ Some (cause.Auth e)) × P (Err e)
RefusedAs kind.NoMemory source P = source ≡ None
RefusedAs other source P = ⊥

-- the answer is one of which P holds, or memory was wanting
abbrev pub Tells : Result Auth Failure → (Result AuthValue (List ℕ) → Type 0) → Type 0
Tells (Ok auth) P = P (Ok (auth_value auth))
Tells (Err e) P = RefusedAs e.0 e.1 P

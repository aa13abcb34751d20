-- The text of CONNECT.
use Rattle.std.specs.Prelude.{◌≡◌, ℕ, List, [], ◌∷◌, ◌++◌, codes, decimal, Option, Some, None, Result, OnOk}
use Rattle.json.specs.Token.{Token, begin_object, end_object, key, string, number, boolean, null}
use Rattle.json.specs.Print.{print}
use Rattle.json.specs.Written.{Written}
use Rattle.nats_connect.specs.declared.info.ConnectInfo.{ConnectInfo}
use Rattle.nats_connect.specs.declared.info.Protocol.{Protocol}
use Rattle.nats_connect.specs.declared.info.Protocol.TheVariants.{Original, Dynamic}

-- a field of the object
abbrev pub field : List ℕ → Token → List Token
field name value = key name ∷ value ∷ []

-- an absent text is `null`
abbrev pub text_or_null : Option (List ℕ) → Token
text_or_null None = null
text_or_null (Some text) = string text

abbrev pub protocol_number : Protocol → ℕ
protocol_number Original = 0
protocol_number Dynamic = 1

-- the fields in their order
abbrev pub first_fields : ConnectInfo → List Token
first_fields info =
    field (codes "verbose") (boolean info.verbose)
    ++ field (codes "pedantic") (boolean info.pedantic)
    ++ field (codes "jwt") (text_or_null info.user_jwt)
    ++ field (codes "nkey") (text_or_null info.nkey)
    ++ field (codes "sig") (text_or_null info.signature)
    ++ field (codes "name") (text_or_null info.name)
    ++ field (codes "echo") (boolean info.echo)
    ++ field (codes "lang") (string info.lang)

abbrev pub last_fields : ConnectInfo → List Token
last_fields info =
    field (codes "version") (string info.version)
    ++ field (codes "protocol") (number (decimal (protocol_number info.protocol)))
    ++ field (codes "tls_required") (boolean info.tls_required)
    ++ field (codes "user") (text_or_null info.user)
    ++ field (codes "pass") (text_or_null info.pass)
    ++ field (codes "auth_token") (text_or_null info.auth_token)
    ++ field (codes "headers") (boolean info.headers)
    ++ field (codes "no_responders") (boolean info.no_responders)

-- the object, and the line that it stands in
abbrev pub object_of : ConnectInfo → List Token
object_of info = begin_object ∷ (first_fields info ++ last_fields info ++ end_object ∷ [])

unfoldable pub connect_text : ConnectInfo → List ℕ
connect_text info = codes "CONNECT " ++ print (object_of info) ++ 13 ∷ 10 ∷ []

-- these tokens are written behind those that stand there
abbrev pub Adds : {E : Type 0} → Result (Unit {0}) E → Written → Written → List Token → Type 0
Adds r old new tokens = OnOk r ((new.before ≡ old.before) × (new.tokens ≡ old.tokens ++ tokens))

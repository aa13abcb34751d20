-- What a client tells of itself.
use Rattle.std.specs.Prelude.{ℕ, Bool, true, false, not, List, codes, Option, option_map}
use Rattle.base64.specs.Engines.{url_safe_no_pad}
use Rattle.base64.specs.GeneralPurpose.{encode_of}
use Rattle.nats_connect.specs.declared.info.ConnectInfo.{ConnectInfo}
use Rattle.nats_connect.specs.declared.info.Protocol.TheVariants.{Dynamic}
use Rattle.nats_pool.specs.Auths.{AuthValue}

-- by its name, by whether it wants no echo, and by what it authenticates
abbrev pub connect_info_of : Option (List ℕ) → Bool → AuthValue → ConnectInfo
connect_info_of name no_echo auth = record {
  verbose = false;
  pedantic = false;
  user_jwt = auth.jwt;
  nkey = auth.nkey;
  signature = option_map (λ (bytes : List ℕ). encode_of url_safe_no_pad bytes) auth.signature;
  name = name;
  echo = not no_echo;
  lang = codes "rust";
  version = codes "0.51.0";
  protocol = Dynamic;
  tls_required = false;
  user = auth.username;
  pass = auth.password;
  auth_token = auth.token;
  headers = true;
  no_responders = true;
}

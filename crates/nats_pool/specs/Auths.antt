-- What a client authenticates by.
use Rattle.std.specs.Prelude.{ℕ, List, Option, None, option_map, string_bytes}
use Rattle.nats_pool.specs.declared.auth.Auth.{Auth}

-- nothing
abbrev pub no_auth : Auth
no_auth = record { jwt = None; nkey = None; username = None; password = None; token = None; signature = None }

-- what it says, by content
pub record AuthValue : Type 0 where
  pub jwt : Option (List ℕ)
  pub nkey : Option (List ℕ)
  pub username : Option (List ℕ)
  pub password : Option (List ℕ)
  pub token : Option (List ℕ)
  pub signature : Option (List ℕ)

abbrev pub auth_value : Auth → AuthValue
auth_value auth = record {
  jwt = option_map string_bytes auth.jwt;
  nkey = option_map string_bytes auth.nkey;
  username = option_map string_bytes auth.username;
  password = option_map string_bytes auth.password;
  token = option_map string_bytes auth.token;
  signature = option_map (λ v. v.items) auth.signature;
}

-- The INFO that a text spells: a JSON object, and the table of its fields. The NATS client protocol names the fields.
use Rattle.std.specs.Prelude.{ℕ, ◌^◌, ℤ, pos, negsuc, Bool, false, nat_lt, List, [], ◌∷◌, Option, Some, None, option_and_then, is_some, if◌then◌else◌, codes}
use Prim.Native.String.{String}
use Rattle.std.specs.Str.{is_utf8}
use Rattle.serde_json.specs.Data.{Data, null, boolean, number, string, array, object, Items, no_items, item}
use Rattle.serde_json.specs.Find.{get, as_str, as_bool, as_number, as_u64, as_i64, as_array, as_object}
use Rattle.serde_json.specs.Read.{read}
use Rattle.nats_info.specs.Info.{default_info}
use Rattle.nats_info.specs.declared.info.ServerInfo.{ServerInfo}

-- a field of one kind: its default where it is missing, nothing where it is of another kind
abbrev pub field : {A : Type 0} → (Data → Option A) → A → Option Data → Option A
field kind default None = Some default
field kind default (Some value) = kind value

-- ---- the kinds

-- a whole number in a range; a number with a fraction or an exponent is none
abbrev pub below : ℕ → ℕ → Option ℕ
below limit n = if nat_lt n limit then Some n else None

abbrev pub whole : Data → Option ℕ
whole value = option_and_then as_u64 (as_number value)

abbrev pub port : Data → Option ℕ
port value = option_and_then (below (2 ^ 16)) (whole value)

-- -128 to 127
abbrev pub small : ℤ → Option ℤ
small (pos n) = if nat_lt n 128 then Some (pos n) else None
small (negsuc n) = if nat_lt n 128 then Some (negsuc n) else None

abbrev pub small_whole : Data → Option ℤ
small_whole value = option_and_then small (option_and_then as_i64 (as_number value))

abbrev pub text_or_null : Data → Option (Option (List ℕ))
text_or_null null = Some None
text_or_null (string text) = Some (Some text)
text_or_null (boolean b) = None
text_or_null (number n) = None
text_or_null (array items) = None
text_or_null (object fields) = None

abbrev pub onto_texts : Option (List ℕ) → Option (List (List ℕ)) → Option (List (List ℕ))
onto_texts (Some text) (Some texts) = Some (text ∷ texts)
onto_texts (Some text) None = None
onto_texts None texts = None

abbrev pub texts_of : Items → Option (List (List ℕ))
texts_of no_items = Some []
texts_of (item value items) = onto_texts (as_str value) (texts_of items)

abbrev pub texts : Data → Option (List (List ℕ))
texts value = option_and_then texts_of (as_array value)

-- ---- the table: what a JSON object's fields make of an INFO, by their kinds

infixl 10 ◌>>=◌
abbrev ◌>>=◌ : {A B : Type 0} → Option A → (A → Option B) → Option B
o >>= f = option_and_then f o

abbrev pub text_field : String → Data → Option (List ℕ)
text_field key value = field as_str [] (get (codes key) value)

abbrev pub switch : String → Data → Option Bool
switch key value = field as_bool false (get (codes key) value)

abbrev pub count : String → Data → Option ℕ
count key value = field whole 0 (get (codes key) value)

abbrev pub with_names : Data → ServerInfo → Option ServerInfo
with_names value info = do
  server_id ← text_field "server_id" value
  server_name ← text_field "server_name" value
  version ← text_field "version" value
  go ← text_field "go" value
  Some (record info { server_id = server_id; server_name = server_name; version = version; go = go })

abbrev pub with_places : Data → ServerInfo → Option ServerInfo
with_places value info = do
  host ← text_field "host" value
  port ← field port 0 (get (codes "port") value)
  connect_urls ← field texts [] (get (codes "connect_urls") value)
  cluster ← field text_or_null None (get (codes "cluster") value)
  domain ← field text_or_null None (get (codes "domain") value)
  Some (record info { host = host; port = port; connect_urls = connect_urls; cluster = cluster; domain = domain })

abbrev pub with_client : Data → ServerInfo → Option ServerInfo
with_client value info = do
  nonce ← text_field "nonce" value
  client_ip ← text_field "client_ip" value
  client_id ← count "client_id" value
  max_payload ← count "max_payload" value
  proto ← field small_whole (pos 0) (get (codes "proto") value)
  Some (record info {
    nonce = nonce;
    client_ip = client_ip;
    client_id = client_id;
    max_payload = max_payload;
    proto = proto;
  })

abbrev pub with_switches : Data → ServerInfo → Option ServerInfo
with_switches value info = do
  auth_required ← switch "auth_required" value
  tls_required ← switch "tls_required" value
  headers ← switch "headers" value
  jetstream ← switch "jetstream" value
  lame_duck_mode ← switch "ldm" value
  Some (record info {
    auth_required = auth_required;
    tls_required = tls_required;
    headers = headers;
    jetstream = jetstream;
    lame_duck_mode = lame_duck_mode;
  })

abbrev pub with_fields : Data → ServerInfo → Option ServerInfo
with_fields value info = do
  named ← with_names value info
  placed ← with_places value named
  known ← with_client value placed
  with_switches value known

-- the INFO that a JSON value is: an object, whose other fields may be anything
abbrev pub info_of : Data → Option ServerInfo
info_of value = if is_some (as_object value) then with_fields value default_info else None

-- the INFO that a text spells
unfoldable pub info_at : List ℕ → Option ServerInfo
info_at text = if is_utf8 text then option_and_then info_of (read text) else None

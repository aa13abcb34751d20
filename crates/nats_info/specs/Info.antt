-- What a server says of itself where it says nothing.
use Rattle.std.specs.Prelude.{false, [], None, pos}
use Rattle.nats_info.specs.declared.info.ServerInfo.{ServerInfo}

-- each text empty, each number 0, each switch off
abbrev pub default_info : ServerInfo
default_info = record {
  server_id = [];
  server_name = [];
  host = [];
  port = 0;
  version = [];
  auth_required = false;
  tls_required = false;
  max_payload = 0;
  proto = pos 0;
  client_id = 0;
  go = [];
  nonce = [];
  connect_urls = [];
  client_ip = [];
  headers = false;
  lame_duck_mode = false;
  cluster = None;
  domain = None;
  jetstream = false;
}

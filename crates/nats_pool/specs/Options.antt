-- The options of a connection.
use Rattle.std.specs.Prelude.{◌≡◌, ℕ, zero, suc, false, codes, Option, Some, None}
use Rattle.std.specs.Int.NonZero.{non_zero_u64_get, non_zero_u16_get}
use denote.Param.Members.{Mut}
use Rattle.nats_pool.specs.Auths.{no_auth}
use Rattle.nats_pool.specs.declared.auth.Auth.{Auth}
use Rattle.nats_pool.specs.declared.callbacks.DelayFn.{DelayFn}
use Rattle.nats_pool.specs.declared.pool_options.Delay.{Delay}
use Rattle.nats_pool.specs.declared.pool_options.Delay.TheVariants as delay
use Rattle.nats_pool.specs.declared.connect_options.ConnectOptions.{ConnectOptions}

-- a limit of 0 is none
abbrev pub limit_of : Option ℕ → Option ℕ
limit_of None = None
limit_of (Some zero) = None
limit_of (Some (suc n)) = Some (suc n)

module _ {X : Type 0} {F : X → Type 0} {g : Mut ((x : X) × F x) (ℕ × Unit {0}) ℕ} where
  -- the callback of a delay, where there is one
  abbrev pub custom_of : Delay X F g → Option (DelayFn X F g)
  custom_of delay.Default = None
  custom_of (delay.Custom f) = Some f

-- the options where none was chosen but what to authenticate by
pub record IsDefaultWith {A B C D E : Type 0} {a : A → Type 0} {b : B → Type 0} {c : C → Type 0} {d : D → Type 0}
    {e : E → Type 0} {p : _} {q : _} {r : _} {s : _} {t : _}
    (auth : Auth) (o : ConnectOptions A B C D E a b c d e p q r s t) : Type 0 where
  pub name : o.name ≡ None
  pub no_echo : o.no_echo ≡ false
  pub max_reconnects : o.max_reconnects ≡ None
  pub connection_timeout : o.connection_timeout ≡ 5000
  pub request_timeout : o.request_timeout ≡ Some 10000
  pub ping_interval : non_zero_u64_get o.ping_interval ≡ 60000
  pub client_capacity : o.client_capacity ≡ 2048
  pub subscription_capacity : o.subscription_capacity ≡ 65536
  pub inbox_prefix : o.inbox_prefix ≡ codes "_INBOX"
  pub read_buffer_capacity : non_zero_u16_get o.read_buffer_capacity ≡ 65535
  pub tls_required : o.tls_required ≡ false
  pub retry_on_initial_connect : o.retry_on_initial_connect ≡ false
  pub ignore_discovered_servers : o.ignore_discovered_servers ≡ false
  pub retain_servers_order : o.retain_servers_order ≡ false
  pub skip_subject_validation : o.skip_subject_validation ≡ false
  pub authenticates_by : o.auth ≡ auth
  pub signer : o.signer ≡ None
  pub auth_callback : o.auth_callback ≡ None
  pub event_callback : o.event_callback ≡ None
  pub reconnect_delay : o.reconnect_delay ≡ delay.Default
  pub reconnect_to_server : o.reconnect_to_server ≡ None
  pub journal : o.journal ≡ false

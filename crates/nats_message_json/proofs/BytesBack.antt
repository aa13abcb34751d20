-- Bytes are read back from their JSON.
use Rattle.std.proofs.Common.{◌≡◌, ℕ, List, [], ◌∷◌, ◌++◌, map, Option, Some, None, option_map, refl, ap, sym, ◌∙◌, append_assoc, append-nil}
use Rattle.serde_json.specs.Data.{Data}
use Rattle.serde_json.specs.View.{items_of}
use Rattle.nats_message_json.specs.Fields.{byte_in, onto_bytes, bytes_in, all_pushed}

pushed_behind : (bytes more : List ℕ) → all_pushed bytes more ≡ bytes ++ more
pushed_behind bytes [] = sym (append-nil bytes)
pushed_behind bytes (byte ∷ more) = pushed_behind (bytes ++ byte ∷ []) more ∙ append_assoc bytes (byte ∷ []) more

-- bytes that are pushed onto none are those bytes
pub pushed_all : (bytes : Option (List ℕ)) → option_map (all_pushed []) bytes ≡ bytes
pushed_all None = refl
pushed_all (Some bytes) = ap Some (pushed_behind [] bytes)

all_of : List (Option ℕ) → Option (List ℕ)
all_of [] = Some []
all_of (byte ∷ bytes) = onto_bytes byte (all_of bytes)

bytes_in-all : (items : List Data) → bytes_in (items_of items) ≡ all_of (map byte_in items)
unfolding all_of
bytes_in-all [] = refl
bytes_in-all (json ∷ items) = ap (onto_bytes (byte_in json)) (bytes_in-all items)

all_of-some : (bytes : List ℕ) → all_of (map Some bytes) ≡ Some bytes
unfolding all_of
all_of-some [] = refl
all_of-some (byte ∷ bytes) = ap (onto_bytes (Some byte)) (all_of-some bytes)

-- items that are read as these bytes one by one
pub bytes_back : (items : List Data) (bytes : List ℕ) → map byte_in items ≡ map Some bytes → bytes_in (items_of items) ≡ Some bytes
bytes_back items bytes read = bytes_in-all items ∙ ap all_of read ∙ all_of-some bytes

-- What a header block says, by the NATS client protocol: a first line with the version, and a line for each field.
use Rattle.std.specs.Prelude.{ℕ, List, [], ◌∷◌, Option, Some, None, if◌then◌else◌}
use Rattle.std.specs.Str.{is_utf8}
use Rattle.std.specs.Str.Lines.{lines}
use Rattle.nats_header.specs.Headers.{Headers}
use Rattle.nats_block.specs.Head.{head_of}
use Rattle.nats_block.specs.Fields.{headers_of}
use Rattle.nats_block.specs.declared.head.Head.{Head}
use Rattle.nats_block.specs.declared.block.Block.{Block}

abbrev pub block_with : Option Head → Option Headers → Option Block
block_with (Some head) (Some headers) =
    Some (record { status = head.status; description = head.description; headers = headers })
block_with (Some head) None = None
block_with None headers = None

-- a block has a first line
abbrev pub block_of_lines : List (List ℕ) → Option Block
block_of_lines [] = None
block_of_lines (first ∷ more) = block_with (head_of first) (headers_of more)

-- a block is UTF-8; a line ends at LF, with one CR before it that counts to neither, and a last line may go without
unfoldable pub block_of : List ℕ → Option Block
block_of bytes = if is_utf8 bytes then block_of_lines (lines bytes) else None

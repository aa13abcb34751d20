-- The limit that an INFO tells fits into 64 bits, since the whole numbers of a JSON text do.
use Rattle.std.proofs.Common.{◌≡◌, ℕ, ◌<◌, ◌^◌, Bool, true, false, cond, List, length, take, drop, Option, Some, None, Ordering, Less, Equal, Greater, refl, sym, ap, ◌∙◌, subst, lit<}
use Rattle.std.specs.Prelude.{◌==◌, ◌&&◌, ◌+◌, nat_lt, nat_le, slice_index, option_and_then, Float, pos, codes, is_some}
use Rattle.std.specs.Option.{option_map}
use Rattle.std.specs.Str.{is_utf8}
use Rattle.std.specs.Ordering.{nat_cmp, match_ordering}
use Rattle.std.specs.Float.{binary64, float_is_finite}
use Rattle.std.specs.Cmp.Lexicographic.{slice_cmp}
use Rattle.std.proofs.lemmas.Bool.{ltb-true}
use Rattle.std.proofs.lemmas.Option.{none-some, same_Some, option_and_then_some}
use Rattle.fast_float.specs.Text.{minus, Parts, scan, digits_of, nearest, with_sign}
use Rattle.json.specs.Json as json
use Rattle.json.specs.Lex.{tokens}
use Rattle.serde_json.specs.Data.{Num, unsigned, negative, float, Data, null, boolean, number, string, array, object, Items, Members, no_members, member, put}
use Rattle.serde_json.specs.Find.{get_member, get, as_object, as_u64}
use Rattle.nats_info.specs.declared.info.ServerInfo.{ServerInfo}
use Rattle.nats_info.specs.Info.{default_info}
use Rattle.nats_info.specs.Fields.{field, whole, small_whole, text_field, switch, count, with_names, with_places, with_client, with_switches, with_fields, info_of, info_at}
use Rattle.nats_names.specs.declared.server_error.ServerError.{ServerError}
use Rattle.nats_lines.specs.declared.word.Word.{Word}
use Rattle.nats_lines.specs.declared.word.Word.TheVariants as word
use Rattle.nats_lines.specs.Operations.{Operation, message, info_op, got, Cut, cut_line, word_of, Head, head_of, HeaderHead, header_head_of, error_of, message_of, OpText, plain, info_text, headed, headed_text, Sight, less, whole as stands, bad, message_or_bad, headed_or_bad, error_or_bad, sight_of_word, sight_of_cut, sight, op_of, lost_at, got_or_fault, front_of_sight, front}
use Rattle.serde_json.specs.Read.{is_integer, float_of, number_from, number_of, of_json, of_items, of_members, max_depth, read}

-- ---- numbers

fits_by : (v n : ℕ) → Some v ≡ Some n → v < 2 ^ 64 → n < 2 ^ 64
fits_by v n is small = subst (λ k. k < 2 ^ 64) (same_Some v n is) small

float_is_none : (finite : Bool) (x : Float) (m : Num) → cond finite (Some (float x)) None ≡ Some m → as_u64 m ≡ None
float_is_none true x m is = sym (ap as_u64 (same_Some (float x) m is))
float_is_none false x m is = absurd (none-some m is)

floats : (sign : Bool) (p : Parts) (m : Num) → float_of sign p ≡ Some m → as_u64 m ≡ None
floats sign p m is = float_is_none (float_is_finite (nearest binary64 sign p)) (nearest binary64 sign p) m is

none_fits : (m : Num) (n : ℕ) → as_u64 m ≡ None → as_u64 m ≡ Some n → n < 2 ^ 64
none_fits m n none is = absurd (none-some n (sym none ∙ is))

plain_fits : (p : Parts) (m : Num) (n : ℕ) → number_from false p ≡ Some m → as_u64 m ≡ Some n → n < 2 ^ 64
plain_fits p m n is whole_is = by (is_integer p) (nat_lt (digits_of p) (2 ^ 64)) refl is
  where
    by : (integer small : Bool) → nat_lt (digits_of p) (2 ^ 64) ≡ small
        → cond (integer && small) (Some (unsigned (digits_of p))) (float_of false p) ≡ Some m → n < 2 ^ 64
    by true true below is =
        fits_by (digits_of p) n (ap as_u64 (same_Some (unsigned (digits_of p)) m is) ∙ whole_is)
        (ltb-true (digits_of p) (2 ^ 64) below)
    by true false below is = none_fits m n (floats false p m is) whole_is
    by false small below is = none_fits m n (floats false p m is) whole_is

negative_fits : (p : Parts) (m : Num) (n : ℕ) → number_from true p ≡ Some m → as_u64 m ≡ Some n → n < 2 ^ 64
negative_fits p m n is whole_is =
    by (is_integer p && nat_lt 0 (digits_of p) && nat_le (digits_of p) (2 ^ 63)) is
  where
    by : (test : Bool) → cond test (Some (negative (with_sign true (digits_of p)))) (float_of true p) ≡ Some m
        → n < 2 ^ 64
    by true is =
        none_fits m n (sym (ap as_u64 (same_Some (negative (with_sign true (digits_of p))) m is))) whole_is
    by false is = none_fits m n (floats true p m is) whole_is

number_fits : (text : List ℕ) (m : Num) (n : ℕ) → number_of text ≡ Some m → as_u64 m ≡ Some n → n < 2 ^ 64
unfolding number_of
number_fits text m n is whole_is = by (slice_index text 0 == minus) is
  where
    by : (signed : Bool) → cond signed (number_from true (scan (drop 1 text))) (number_from false (scan text)) ≡ Some m
        → n < 2 ^ 64
    by true is = negative_fits (scan (drop 1 text)) m n is whole_is
    by false is = plain_fits (scan text) m n is whole_is

-- ---- values

-- where it is a whole number, that is below 2^64
abbrev Fits : Data → Type 0
Fits value = (n : ℕ) → whole value ≡ Some n → n < 2 ^ 64

abbrev AllFit : Members → Type 0
AllFit no_members = Unit {0}
AllFit (member key value more) = Fits value × AllFit more

put_fits : (key : List ℕ) (value : Data) (found : Members) → Fits value → AllFit found → AllFit (put key value found)
put_fits key value no_members fits all = (fits, tt)
put_fits key value (member other earlier more) fits all =
    by (slice_cmp nat_cmp key other) (put_fits key value more fits all.1)
  where
    by : (o : Ordering) → AllFit (put key value more)
        → AllFit (match_ordering o (member key value (member other earlier more)) (member other value more)
        (member other earlier (put key value more)))
    by Less later = (fits, all)
    by Equal later = (fits, all.1)
    by Greater later = (all.0, later)

value_fits : (text : json.Json) (value : Data) → of_json text ≡ Some value → Fits value
value_fits json.null value is n whole_is = absurd (none-some n (ap whole (same_Some null value is) ∙ whole_is))
value_fits (json.boolean b) value is n whole_is =
    absurd (none-some n (ap whole (same_Some (boolean b) value is) ∙ whole_is))
value_fits (json.number text) value is n whole_is = by (number_of text) refl is
  where
    by : (m : Option Num) → number_of text ≡ m → option_map number m ≡ Some value → n < 2 ^ 64
    by None none is = absurd (none-some value is)
    by (Some m) some is = number_fits text m n some (ap whole (same_Some (number m) value is) ∙ whole_is)
value_fits (json.string text) value is n whole_is =
    absurd (none-some n (ap whole (same_Some (string text) value is) ∙ whole_is))
value_fits (json.array items) value is n whole_is = by (of_items items) is
  where
    by : (found : Option Items) → option_map array found ≡ Some value → n < 2 ^ 64
    by None is = absurd (none-some value is)
    by (Some found) is = absurd (none-some n (ap whole (same_Some (array found) value is) ∙ whole_is))
value_fits (json.object members) value is n whole_is = by (of_members members no_members) is
  where
    by : (found : Option Members) → option_map object found ≡ Some value → n < 2 ^ 64
    by None is = absurd (none-some value is)
    by (Some found) is = absurd (none-some n (ap whole (same_Some (object found) value is) ∙ whole_is))

members_fit : (members : json.Members) (found all : Members) → AllFit found → of_members members found ≡ Some all → AllFit all
members_fit json.no_members found all fit is = subst AllFit (same_Some found all is) fit
members_fit (json.member key text more) found all fit is =
    option_and_then_some (λ d. of_members more (put key d found)) (of_json text) all is (λ value some rest.
    members_fit more (put key value found) all (put_fits key value found (value_fits text value some) fit) rest)

-- the fields of an object
abbrev FieldsFit : Data → Type 0
FieldsFit value = (key : List ℕ) (field : Data) → get key value ≡ Some field → Fits field

member_fits : (key : List ℕ) (members : Members) (field : Data) → AllFit members → get_member key members ≡ Some field → Fits field
member_fits key no_members field all is = absurd (none-some field is)
member_fits key (member other value more) field all is =
    by (slice_cmp nat_cmp key other) (member_fits key more field all.1) is
  where
    by : (o : Ordering) → (get_member key more ≡ Some field → Fits field)
        → match_ordering o (get_member key more) (Some value) (get_member key more) ≡ Some field → Fits field
    by Less later is = later is
    by Equal later is = subst Fits (same_Some value field is) all.0
    by Greater later is = later is

fields_fit : (text : json.Json) (value : Data) → of_json text ≡ Some value → FieldsFit value
fields_fit json.null value is key field found = absurd (none-some field (ap (get key) (same_Some null value is) ∙ found))
fields_fit (json.boolean b) value is key field found =
    absurd (none-some field (ap (get key) (same_Some (boolean b) value is) ∙ found))
fields_fit (json.number text) value is key field found = by (number_of text) is
  where
    by : (m : Option Num) → option_map number m ≡ Some value → Fits field
    by None is = absurd (none-some value is)
    by (Some m) is = absurd (none-some field (ap (get key) (same_Some (number m) value is) ∙ found))
fields_fit (json.string text) value is key field found =
    absurd (none-some field (ap (get key) (same_Some (string text) value is) ∙ found))
fields_fit (json.array items) value is key field found = by (of_items items) is
  where
    by : (all : Option Items) → option_map array all ≡ Some value → Fits field
    by None is = absurd (none-some value is)
    by (Some all) is = absurd (none-some field (ap (get key) (same_Some (array all) value is) ∙ found))
fields_fit (json.object members) value is key field found = by (of_members members no_members) refl is
  where
    by : (all : Option Members) → of_members members no_members ≡ all → option_map object all ≡ Some value → Fits field
    by None none is = absurd (none-some value is)
    by (Some all) some is =
        member_fits key all field (members_fit members no_members all tt some)
        (ap (get key) (same_Some (object all) value is) ∙ found)

read_fits : (text : List ℕ) (value : Data) → read text ≡ Some value → FieldsFit value
read_fits text value is =
    option_and_then_some of_json (option_and_then (λ p. json.if_last p.0 p.1) (json.value max_depth (tokens text))) value is
    (λ found some of_is. fields_fit found value of_is)

-- ---- an INFO

count_fits : (value : Data) (key : List ℕ) (n : ℕ) → FieldsFit value → field whole 0 (get key value) ≡ Some n → n < 2 ^ 64
count_fits value key n fit is = by (get key value) refl is
  where
    by : (found : Option Data) → get key value ≡ found → field whole 0 found ≡ Some n → n < 2 ^ 64
    by None none is = fits_by 0 n is (lit< tt)
    by (Some given) some is = fit key given some n is

client_fits : (value : Data) (before known : ServerInfo) → FieldsFit value → with_client value before ≡ Some known → known.max_payload < 2 ^ 64
client_fits value before known fit is =
    option_and_then_some _ (text_field "nonce" value) known is (λ nonce told is.
    option_and_then_some _ (text_field "client_ip" value) known is (λ ip told is.
    option_and_then_some _ (count "client_id" value) known is (λ id told is.
    option_and_then_some _ (count "max_payload" value) known is (λ most counted is.
    option_and_then_some _ (field small_whole (pos 0) (get (codes "proto") value)) known is (λ proto told is.
    subst (λ (info : ServerInfo). info.max_payload < 2 ^ 64) (same_Some _ known is)
    (count_fits value (codes "max_payload") most fit counted))))))

switches_keep : (value : Data) (known info : ServerInfo) → with_switches value known ≡ Some info → info.max_payload ≡ known.max_payload
switches_keep value known info is =
    option_and_then_some _ (switch "auth_required" value) info is (λ auth told is.
    option_and_then_some _ (switch "tls_required" value) info is (λ tls told is.
    option_and_then_some _ (switch "headers" value) info is (λ headers told is.
    option_and_then_some _ (switch "jetstream" value) info is (λ jetstream told is.
    option_and_then_some _ (switch "ldm" value) info is (λ ldm told is.
    sym (ap (λ (i : ServerInfo). i.max_payload) (same_Some _ info is)))))))

fields_keep : (value : Data) (info : ServerInfo) → FieldsFit value → with_fields value default_info ≡ Some info → info.max_payload < 2 ^ 64
fields_keep value info fit is =
    option_and_then_some _ (with_names value default_info) info is (λ named told is.
    option_and_then_some _ (with_places value named) info is (λ placed told is.
    option_and_then_some _ (with_client value placed) info is (λ known told is.
    subst (λ n. n < 2 ^ 64) (sym (switches_keep value known info is)) (client_fits value placed known fit told))))

info_fits : (text : List ℕ) (info : ServerInfo) → info_at text ≡ Some info → info.max_payload < 2 ^ 64
unfolding info_at
info_fits text info is = by_text (is_utf8 text) is
  where
    by_object : (object_is : Bool) (value : Data) → FieldsFit value
        → cond object_is (with_fields value default_info) None ≡ Some info → info.max_payload < 2 ^ 64
    by_object true value fit is = fields_keep value info fit is
    by_object false value fit is = absurd (none-some info is)

    by_text : (utf8 : Bool) → cond utf8 (option_and_then info_of (read text)) None ≡ Some info → info.max_payload < 2 ^ 64
    by_text true is =
        option_and_then_some info_of (read text) info is
        (λ value some of_is. by_object (is_some (as_object value)) value (read_fits text value some) of_is)
    by_text false is = absurd (none-some info is)

-- ---- what stands at the front of a text

-- the limit that an operation tells, if it is an INFO, fits
abbrev pub SoundRead : Operation → Type 0
SoundRead (info_op info) = info.max_payload < 2 ^ 64
SoundRead operation = Unit {0}

-- the text of an operation is that of an INFO, or none is in it
abbrev SoundText : OpText → Type 0
SoundText (plain operation) = SoundRead operation
SoundText text = Unit {0}

abbrev SoundSight : Sight → Type 0
SoundSight (stands text n) = SoundText text
SoundSight seen = Unit {0}

message_sound : (end : ℕ) (rest : List ℕ) (head : Option Head) → SoundSight (message_or_bad end rest head)
message_sound end rest None = tt
message_sound end rest (Some head) = by (nat_lt (length rest) (head.count + 2))
  where
    by : (short : Bool) → SoundSight (cond short less (stands (plain (message head.sid (message_of head (take head.count rest)))) (end + head.count + 4)))
    by true = tt
    by false = tt

headed_sound : (end : ℕ) (rest : List ℕ) (head : Option HeaderHead) → SoundSight (headed_or_bad end rest head)
headed_sound end rest None = tt
headed_sound end rest (Some h) = by (nat_lt (length rest) (h.head.count + 2))
  where
    by : (short : Bool) → SoundSight (cond short less (stands (headed_text h (take h.head.count rest)) (end + h.head.count + 4)))
    by true = tt
    by false = tt

error_sound : (n : ℕ) (error : Option ServerError) → SoundSight (error_or_bad n error)
error_sound n None = tt
error_sound n (Some error) = tt

word_sound : (first : Word) (line rest : List ℕ) → SoundSight (sight_of_word first line rest)
word_sound word.Message line rest = message_sound (length line) rest (head_of (drop 4 line))
word_sound word.HeaderMessage line rest = headed_sound (length line) rest (header_head_of (drop 5 line))
word_sound word.Error line rest = error_sound (length line + 2) (error_of line)
word_sound word.Info line rest = tt
word_sound word.Ok line rest = tt
word_sound word.Ping line rest = tt
word_sound word.Pong line rest = tt
word_sound word.Other line rest = tt

cut_sound : (found : Option Cut) → SoundSight (sight_of_cut found)
cut_sound None = tt
cut_sound (Some cut) = word_sound (word_of cut.line) cut.line cut.rest

sight_sound : (bytes : List ℕ) → SoundSight (sight bytes)
unfolding sight
sight_sound bytes = cut_sound (cut_line bytes)

mapped_sound : {A : Type 0} (f : A → Operation) (found : Option A) (operation : Operation) → ((x : A) → SoundRead (f x))
    → option_map f found ≡ Some operation → SoundRead operation
mapped_sound f None operation sound is = absurd (none-some operation is)
mapped_sound f (Some x) operation sound is = subst SoundRead (same_Some (f x) operation is) (sound x)

text_sound : (text : OpText) (operation : Operation) → SoundText text → op_of text ≡ Some operation → SoundRead operation
text_sound (plain op) operation sound is = subst SoundRead (same_Some op operation is) sound
text_sound (info_text text) operation sound is = by (info_at text) refl is
  where
    by : (info : Option ServerInfo) → info_at text ≡ info → option_map info_op info ≡ Some operation → SoundRead operation
    by None none is = absurd (none-some operation is)
    by (Some info) some is = subst SoundRead (same_Some (info_op info) operation is) (info_fits text info some)
text_sound (headed sid m block) operation sound is = mapped_sound _ _ operation (λ b. tt) is

got_sound : (text : OpText) (m lost n : ℕ) (found : Option Operation) (operation : Operation) → SoundText text → op_of text ≡ found
    → got_or_fault m lost found ≡ got operation n → SoundRead operation
got_sound text m lost n None operation sound found is = cc
got_sound text m lost n (Some op) operation sound found is =
    let same : op ≡ operation = cc in
    subst SoundRead same (text_sound text op sound found)

-- an INFO that stands at the front of a text tells a limit that fits
pub front_sound : (bytes : List ℕ) (operation : Operation) (n : ℕ) → front bytes ≡ got operation n → SoundRead operation
unfolding front
front_sound bytes operation n is = by (sight bytes) (sight_sound bytes) is
  where
    by : (seen : Sight) → SoundSight seen → front_of_sight seen ≡ got operation n → SoundRead operation
    by less sound is = cc
    by (bad m) sound is = cc
    by (stands text m) sound is = got_sound text m (lost_at text m) n (op_of text) operation sound refl is

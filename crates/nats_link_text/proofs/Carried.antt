-- What links carry: the texts of their commands, which are read back.
use Rattle.std.proofs.Common.{◌≡◌, Bool, true, false, cond, List, [], ◌∷◌, ◌++◌, map, Result, Ok, Err, IfOk, refl, sym, ap, ap₂, ◌∙◌, subst, take-append-drop, append_assoc}
use Rattle.std.proofs.lemmas.List.{map-append}
use Rattle.nats_message.specs.declared.op.ClientOp.{ClientOp}
use Rattle.nats_commands.specs.Commands.{command_text, command_texts}
use Rattle.nats_client_text.specs.Grammar.{read_of}
use Rattle.nats_client_text.specs.Law.{ReadBack}
use Rattle.nats_history.specs.declared.config.Config.{Config}
use Rattle.nats_history.specs.declared.turn.Turn.{Turn}
use Rattle.nats_history.specs.declared.transcript.LinkWord.{LinkWord}
use Rattle.nats_history.specs.declared.transcript.LinkWord.TheVariants as word
use Rattle.nats_history.specs.declared.transcript.LinkRow.{LinkRow}
use Rattle.nats_history.specs.declared.transcript.Transcript.{Transcript}
use Rattle.nats_history.specs.declared.transcript.RunError.{RunError}
use Rattle.nats_history.specs.History.{opened, link_end, History, is_up, texts, text_by, link_text, taken_count}
use Rattle.nats_history.specs.Schedule.{steps}
use Rattle.nats_history.specs.Transcripts.{link_row, ended_links, up_link, transcript, Plays}
use Rattle.nats_link_text.specs.Law.{carried_read, read_whole, CarriesTexts, ReadsSent, NoSmuggling}
use Rattle.nats_link_text.specs.Sent.{commands_by, link_commands, ended_commands, up_commands, sent_commands, carried}
use Rattle.nats_link_text.specs.Typed.{IsTypedConfig, AreTypedTurns}
use Rattle.nats_link_text.proofs.Sendable.{AreAllSendable, sent_sendable}
use Rattle.nats_link_text.proofs.Steps.{steps_sound}

-- ---- texts

texts_are : (ops : List ClientOp) → texts ops ≡ command_texts ops
texts_are [] = refl
texts_are (op ∷ ops) = ap (λ more. command_text op ++ more) (texts_are ops)

texts_append : (one other : List ClientOp) → command_texts one ++ texts other ≡ command_texts (one ++ other)
texts_append [] other = texts_are other
texts_append (op ∷ ops) other =
    append_assoc (command_text op) (command_texts ops) (texts other) ∙ ap (λ more. command_text op ++ more) (texts_append ops other)

link_text_is : (c : Config) (h : History) → link_text c h ≡ command_texts (link_commands c h)
link_text_is c [] = refl
link_text_is c ((place, opened info) ∷ h) = texts_are (commands_by c h (opened info))
link_text_is c ((place, step) ∷ h) =
    ap (λ before. before ++ text_by c h step) (link_text_is c h) ∙ texts_append (link_commands c h) (commands_by c h step)

row_carries : (c : Config) (end : LinkWord) (h : History) → carried (link_row c end h) ≡ command_texts (link_commands c h)
row_carries c end h = take-append-drop (taken_count c h) (link_text c h) ∙ link_text_is c h

-- ---- links

ended_carry : (c : Config) (h : History) → map carried (ended_links c h) ≡ map command_texts (ended_commands c h)
ended_carry c [] = refl
ended_carry c ((place, link_end end) ∷ h) =
    map-append carried (ended_links c h) (link_row c end h ∷ [])
    ∙ (ap₂ (λ before last. before ++ last ∷ []) (ended_carry c h) (row_carries c end h)
    ∙ sym (map-append command_texts (ended_commands c h) (link_commands c h ∷ [])))
ended_carry c ((place, step) ∷ h) = ended_carry c h

up_carries : (c : Config) (h : History) → map carried (up_link c h) ≡ map command_texts (up_commands c h)
up_carries c h = by (is_up h)
  where
    by : (b : Bool) → map carried (cond b (link_row c word.Up h ∷ []) []) ≡ map command_texts (cond b (link_commands c h ∷ []) [])
    by true = ap (λ text. text ∷ []) (row_carries c word.Up h)
    by false = refl

links_carry : (c : Config) (h : History) → map carried (ended_links c h ++ up_link c h) ≡ map command_texts (sent_commands c h)
links_carry c h =
    map-append carried (ended_links c h) (up_link c h)
    ∙ (ap₂ (λ before last. before ++ last) (ended_carry c h) (up_carries c h)
    ∙ sym (map-append command_texts (ended_commands c h) (up_commands c h)))

pub carries : CarriesTexts
carries c turns = links_carry c (steps c turns)

-- ---- reading

read_by_text : (rows : List LinkRow) → map carried_read rows ≡ map read_of (map carried rows)
read_by_text [] = refl
read_by_text (row ∷ rows) = ap (λ more. carried_read row ∷ more) (read_by_text rows)

module _ (reads : ReadBack) where
  read_all : (sent : List (List ClientOp)) → AreAllSendable sent → map read_of (map command_texts sent) ≡ map read_whole sent
  read_all [] are = refl
  read_all (ops ∷ sent) are = ap₂ (λ first more. first ∷ more) (reads ops are.0) (read_all sent are.1)

  pub no_smuggling : NoSmuggling
  no_smuggling c turns tested config typed =
      let sent = sent_commands c (steps c turns) in
      read_by_text (transcript c turns).links
      ∙ (ap (λ all. map read_of all) (carries c turns)
      ∙ read_all sent (sent_sendable c (steps c turns) config (steps_sound c tested config turns typed)))

-- ---- a run

pub run_reads : (c : Config) (turns : List Turn) (r : Result Transcript RunError) → NoSmuggling → Plays c turns r → IsTypedConfig c → AreTypedTurns turns
    → IfOk r (λ t. c.skip_subject_validation ≡ false → ReadsSent c turns t)
run_reads c turns (Ok t) law plays config typed = λ tested. subst (ReadsSent c turns) (sym plays.1) (law c turns tested config typed)
run_reads c turns (Err refused) law plays config typed = tt

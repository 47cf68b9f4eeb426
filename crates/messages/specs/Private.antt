-- What the contracts of private functions cite, and no public one: the values that pass between them.
use Rattle.std.specs.Prelude.{ℕ, ◌-◌, ◌≤◌, ◌≡◌, Bool, true, ◌&&◌, List, eqb, take, drop, Result, Ok, Err}
use Rattle.octets.specs.Octets.{value}
use Rattle.messages.specs.Layout.{size, zeros}
use Rattle.messages.specs.Table as table
use Rattle.messages.specs.Table.{group_count, id_octets, head, payload_size, any_id, is_count}
use Rattle.messages.specs.Reading.{Checked, no, yes, check, Form, Beside, beside_of}
use Rattle.messages.specs.Writing.{is_addressed, is_limited, length_in}
use Rattle.messages.specs.Answers.{number_of, message_of, besides, answer_of}
use Rattle.messages.specs.declared.Edition.{Edition}
use Rattle.messages.specs.declared.kinds.Kind.{Kind}
use Rattle.messages.specs.declared.kinds.Kind.TheVariants.{SlacParmReq, SlacParmCnf, StartAttenCharInd, AttenCharInd, AttenCharRsp, MnbcSoundInd, ValidateReq, ValidateCnf, SlacMatchReq, SlacMatchCnf, AttenProfileInd}
use Rattle.messages.specs.declared.kinds.Form as code
use Rattle.messages.specs.declared.writer.Head.{Head}
use Rattle.messages.specs.declared.writer.Outgoing.{Outgoing}
use Rattle.messages.specs.declared.Message.{Message}
use Rattle.messages.specs.declared.Refusal.{Refusal}

-- the kind that a value of the code means
abbrev pub kind_of : Kind → table.Kind
kind_of SlacParmReq = table.slac_parm_req
kind_of SlacParmCnf = table.slac_parm_cnf
kind_of StartAttenCharInd = table.start_atten_char_ind
kind_of AttenCharInd = table.atten_char_ind
kind_of AttenCharRsp = table.atten_char_rsp
kind_of MnbcSoundInd = table.mnbc_sound_ind
kind_of ValidateReq = table.validate_req
kind_of ValidateCnf = table.validate_cnf
kind_of SlacMatchReq = table.slac_match_req
kind_of SlacMatchCnf = table.slac_match_cnf
kind_of AttenProfileInd = table.atten_profile_ind

-- the form that a frame was found to have
abbrev pub form_of : Result code.Form Refusal → Checked Form
form_of (Ok f) = yes (record { kind = kind_of f.kind; count = f.count })
form_of (Err x) = no (number_of x)

-- r is the answer to a frame that reads as x
abbrev pub Reads : Edition → Result Message Refusal → Checked table.Message → Type 0
Reads e r x = answer_of e r (beside_of x) ≡ x

-- an edition, a payload's octets, a destination and a source are those of the frame s, the octets the n behind its head
pub record PayloadOf (e : Edition) (s : List ℕ) (n : ℕ) (e' : Edition) (p : List ℕ) (d f : ℕ) : Type 0 where
  pub edition : e' ≡ e
  pub octets : p ≡ take n (drop (size head) s)
  pub dst : d ≡ value s 0 6
  pub src : f ≡ value s 6 6

-- an identifier, both of them, and a group count with its values are right in an edition
abbrev pub id_right : Edition → List ℕ → Bool
id_right e l = zeros (any_id e) l 0 id_octets

abbrev pub ids_right : Edition → Beside → Bool
ids_right e b = id_right e b.first && id_right e b.second

abbrev pub groups_right : Edition → ℕ → Beside → Bool
groups_right e g b = is_count e g && eqb (value b.groups g (group_count - g)) 0

-- the message that the code is to write
abbrev pub means : Outgoing → table.Message
means o = message_of o.edition o.message (besides o.groups o.ids)

-- h is the head of the message m
pub record Heads (h : Head) (m : table.Message) : Type 0 where
  pub kind : kind_of h.form.kind ≡ m.kind
  pub count : h.form.count ≡ m.count
  pub dst : h.dst ≡ m.dst
  pub src : h.src ≡ m.src

-- and the two tests before writing m pass
pub record Passes (h : Head) (m : table.Message) : Type 0 where
  pub heads : Heads h m
  pub addressed : is_addressed m ≡ true
  pub limited : is_limited m ≡ true

-- r is the head of m, or the refusal that one of the two tests gives, whatever follows them
abbrev pub Judges : Result Head Refusal → table.Message → Type 0
Judges (Ok h) m = Passes h m
Judges (Err x) m = (y : Checked (List ℕ)) → no (number_of x) ≡ check (is_addressed m) 5 (check (is_limited m) 6 y)

-- a message of at most group_count group values, with room for its payload, and for its frame
pub record PayloadRoom (m : table.Message) (n : ℕ) : Type 0 where
  pub most : m.count ≤ group_count
  pub payload : payload_size m.kind m.count ≤ n

pub record FrameRoom (m : table.Message) (n : ℕ) : Type 0 where
  pub most : m.count ≤ group_count
  pub frame : length_in m ≤ n

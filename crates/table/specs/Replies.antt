-- The reply of the definitions as the reply that the code gives: the same five numbers.
-- Assumes nothing.
use Rattle.x696.specs.Reply.{Reply as Meant, Answer, refusal, refusal_reply}
use Rattle.octets.specs.Cause.{code_of}
use Rattle.octets.specs.Part.{part_of}
use Rattle.octets.specs.declared.faults.Refusal.{Refusal}
use Rattle.table.specs.declared.reply.Reply.{Reply}

abbrev pub as_reply : Meant → Reply
as_reply r = record { number = r.number; part = r.part; place = r.place; nodes = r.nodes; octets = r.octets }

-- a refusal's three numbers, as an answer and as a reply
abbrev pub as_answer : {A : Type 0} → Refusal → Answer A
as_answer r = refusal (code_of r.cause) (part_of r.part) r.place

abbrev pub refused_reply : Refusal → Reply
refused_reply r = as_reply (refusal_reply (code_of r.cause) (part_of r.part) r.place)

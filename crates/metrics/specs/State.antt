-- Document 01, "Lifecycles and events": the state of module 4's accumulator, and refusal 1 for it.
use Rattle.std.specs.Prelude.{Bool, ◌&&◌}
use Rattle.events.specs.Events.{empty_log, log_sound}
use Rattle.seen.specs.Seen.{new_hypotheses, hypotheses_sound}
use Rattle.partners.specs.Partners.{new_truths, truths_sound}
use Rattle.metrics.specs.declared.MOTAccumulator.{MOTAccumulator}

abbrev pub new_state : MOTAccumulator
new_state = record { log = empty_log; truths = new_truths; hypotheses = new_hypotheses }

-- used counts within the capacities, and no id twice in a table
unfoldable pub sound_state : MOTAccumulator → Bool
sound_state s = log_sound s.log && (truths_sound s.truths && hypotheses_sound s.hypotheses)

-- Document 01, "Lifecycles and events": the state of module 3's accumulator of events, and refusal 1 for it.
use Rattle.std.specs.Prelude.{Bool, ◌&&◌}
use Rattle.events.specs.Events.{empty_log, log_sound}
use Rattle.partners.specs.Partners.{new_truths, truths_sound}
use Rattle.motmetrics.specs.declared.MOTAccumulator.{MOTAccumulator}

abbrev pub new_state : MOTAccumulator
new_state = record { log = empty_log; last_match = new_truths }

-- used counts within the capacities, and no id twice
unfoldable pub sound_state : MOTAccumulator → Bool
sound_state s = log_sound s.log && truths_sound s.last_match

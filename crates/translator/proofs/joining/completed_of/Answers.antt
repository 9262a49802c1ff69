use Rattle.std.proofs.Common.{arith}
use Rattle.translator.proofs.Fits.{sent-length-within}
use Rattle.translator.proofs.joining.completed_of.Goals as goal

pub overflow_cast-result : goal.overflow_cast-result
overflow_cast-result c = record { fits = omega (arith, sent-length-within _ c.requires, c.sent_length.ensures) }

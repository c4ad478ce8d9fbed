-- What is wrong with an image, as the opening of a store tells it.
use Rattle.nq_image.specs.declared.ImageFault.{ImageFault}
use Rattle.nq_image.specs.declared.ImageFault.TheVariants as image
use Rattle.nq_store.specs.declared.fault.Fault.{Fault}
use Rattle.nq_store.specs.declared.fault.Fault.TheVariants as fault

abbrev pub fault_of : ImageFault → Fault
fault_of image.NotAnImage = fault.NotAnImage
fault_of (image.BadField place) = fault.BadField place
fault_of image.Memory = fault.Memory
